use Rattle.std.proofs.Common.{◌-◌, ◌*◌, ◌/◌, arith}
use Rattle.pool_services.proofs.CellBlocks.{tail-none, located-at}
use Rattle.pool_services.proofs.extents.PoolExtent.locate.Goals as goal

pub returns-in_err-cell : goal.returns-in_err-cell
returns-in_err-cell g c =
    let b = rw (← c.self.view_is) at c.requires.extent.blocks in
    let n = rw (← c.self.view_is) at (c.in_err-cell.ensures) in
    let l = rw (← c.self.view_is) at c.requires.in_extent in
    rw (c.from_residual.ensures, ← c.self.view_is) (tail-none _ 0 c.self.inside.range.first c.args.address ((c.args.address - 8 - 4096 * c.self.inside.range.first) / 32) c.self.inside.region.blocks b (omega (arith, l.0)) n)

pub returns : goal.returns
returns g c =
    let b = rw (← c.self.view_is) at c.requires.extent.blocks in
    let n = rw (← c.self.view_is) at (c.in_ok-cell.ensures) in
    let l = rw (← c.self.view_is) at c.requires.in_extent in
    rw (← c.self.view_is) (located-at _ c.self.inside.range.first c.args.address c.in_ok-cell.cell c.self.inside.region.blocks b l.0 n.0 n.1 n.2)
