-- Pages of memory by the numbers that a machine has for them.
use Rattle.std.specs.Prelude.{ℕ, ◌≤◌, ◌-◌}
use Rattle.raw_pool.specs.PagePlaces.{ArePages}
use Rattle.raw_pool.specs.declared.pages.numbered.PoolMemory.{PoolMemory}
use Rattle.raw_pool.specs.declared.raw_bytes.RawBytes.{RawBytes}

-- bytes are those of a number of the machine's pages from one on
abbrev pub AreNumbered : PoolMemory → ℕ → ℕ → RawBytes → Type 0
AreNumbered m page pages bytes =
    (m.first ≤ page) × ArePages m.heap.now.slot (page - m.first) pages bytes
