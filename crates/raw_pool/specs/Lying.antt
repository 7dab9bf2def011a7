-- Where a pool lies.
use Rattle.std.specs.Prelude.{ℕ, Option}
use Rattle.raw_pool.specs.Blocks.{Pool}
use Rattle.raw_pool.specs.Stores.{pool_in}
use Rattle.raw_pool.specs.declared.store.Store.{Store}

-- the pool at a page
abbrev pub lying : Option ℕ → Pool → Pool
lying page p = record { cells = p.cells; blocks = p.blocks; lies = page }

-- the pool that a store represents, where it lies
abbrev pub whole_pool : {A : Type 0} → Store A → Pool
whole_pool s = lying s.region.lies (pool_in s)
