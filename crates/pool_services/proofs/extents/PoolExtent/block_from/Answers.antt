use Rattle.std.proofs.Common.{◌≡◌, ap}
use Rattle.pool_services.specs.Extents.{Extent}
use Rattle.pool_services.proofs.ListedBlocks.{block_none, block_some, cell_within}
use Rattle.pool_services.proofs.extents.PoolExtent.block_from.Goals as goal

pub returns-in_err-cell : goal.returns-in_err-cell
returns-in_err-cell g c =
    rw c.from_residual.ensures (block_none c.args.address c.cell_from.result c.behind_block-cell.result c.args.self.now c.cell_from.ensures c.behind_block-cell.ensures c.in_err-cell.ensures)

pub address_of-requires-clause-cell : goal.address_of-requires-clause-cell
address_of-requires-clause-cell g c = cell_within _ c.behind_block-cell.result c.in_ok-cell.cell c.in_ok-cell.size c.args.self.now.blocks c.requires.blocks c.in_ok-cell.ensures

pub returns : goal.returns
returns g c =
    let mtype : c.self.inside.mtype ≡ c.args.self.now.mtype = ap (λ (e : Extent). e.mtype) c.self.view_is in
    rw (c.address_of.ensures, mtype) (block_some c.args.address c.cell_from.result c.behind_block-cell.result c.in_ok-cell.cell c.in_ok-cell.size c.args.self.now c.cell_from.ensures c.behind_block-cell.ensures c.in_ok-cell.ensures)
