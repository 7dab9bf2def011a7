use Rattle.std.proofs.Common.{◌-◌, arith}
use Rattle.pool_services.proofs.ListedBlocks.{behind_cell, size_within}
use Rattle.pool_services.proofs.extents.PoolExtent.behind_block.Goals as goal

pub cells_for-requires : goal.cells_for-requires
cells_for-requires g c =
    let b = rw (← c.self.view_is) at c.requires.blocks in
    let f = rw (← c.self.view_is) at c.requires.few in
    let w = size_within _ (c.args.cell - 1) c.in-Some.size c.self.inside.region.blocks b c.in-Some.ensures in
    omega (arith, w, f)

pub overflow_add-result : goal.overflow_add-result
overflow_add-result g c =
    let b = rw (← c.self.view_is) at c.requires.blocks in
    let f = rw (← c.self.view_is) at c.requires.few in
    let w = size_within _ (c.args.cell - 1) c.in-Some.size c.self.inside.region.blocks b c.in-Some.ensures in
    omega (arith, w, f, c.cells_for.ensures)

pub returns-in-Some : goal.returns-in-Some
returns-in-Some g c =
    let b = rw (← c.self.view_is) at c.requires.blocks in
    rw (c.cells_for.ensures, ← c.self.view_is) (behind_cell _ c.args.cell c.in-Some.size c.self.inside.region.blocks b (omega (arith, c.if-cell-eq0.false)) c.in-Some.ensures)
