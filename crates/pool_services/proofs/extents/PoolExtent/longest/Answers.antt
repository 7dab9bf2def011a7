use Rattle.std.proofs.Common.{ℕ, arith, ap}
use Rattle.raw_pool.specs.Blocks.{longest_run}
use Rattle.pool_services.specs.Extents.{cells_in}
use Rattle.pool_services.proofs.RoomLists.{longest-within}
use Rattle.pool_services.proofs.extents.PoolExtent.longest.Goals as goal

pub overflow_cast-result : goal.overflow_cast-result
overflow_cast-result g c =
    let b = rw (← c.self.view_is) at c.requires.blocks in
    let f = rw (← c.self.view_is) at c.requires.few in
    let e = ap (λ (k : ℕ). longest_run k 0 c.self.inside.region.blocks) c.self.invariant.0 in
    omega (arith, longest-within (cells_in c.self.inside.range.pages) 0 c.self.inside.region.blocks b, f, c.longest_free.ensures, e)
