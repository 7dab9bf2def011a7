use Rattle.std.proofs.Common.{sym, ap, subst, arith}
use Rattle.raw_pool.specs.Blocks.{cells_for}
use Rattle.pool_services.specs.Extents.{Extent, IsExtent, cells_in}
use Rattle.pool_services.proofs.CellBlocks.{fit-within}
use Rattle.pool_services.proofs.ExtentLists.{is-extent}
use Rattle.pool_services.proofs.ExtentChanges.{is-taken, taken-none, taken-some}
use Rattle.pool_services.proofs.RoomLists.{rooms-longest}
use Rattle.pool_services.proofs.Reached.{rooms-reach, same-rooms}
use Rattle.pool_services.proofs.extent_group.ExtentGroup.take.Goals as goal

pub take-requires : goal.take-requires
take-requires g c =
    is-extent c.args.self.now.extents.items c.args.at c.index_mut-extent.result.now c.requires.order (c.requires.index, c.index_mut-extent.ensures.value)

pub returns-in_err-cell : goal.returns-in_err-cell
returns-in_err-cell g c =
    rw c.from_residual.ensures (taken-none c.args.self.now.extents.items c.args.at c.args.size c.index_mut-extent.result.now c.take.new.self (c.requires.index, c.index_mut-extent.ensures.value) (c.in_err-cell.ensures.extent) (c.in_err-cell.ensures.cell))

pub address_of-address-requires-clause-extent : goal.address_of-address-requires-clause-extent
address_of-address-requires-clause-extent g c =
    let x = is-extent c.args.self.now.extents.items c.args.at c.index_mut-extent.result.now c.requires.order (c.requires.index, c.index_mut-extent.ensures.value) in
    subst IsExtent (sym (c.in_ok-cell.ensures.extent)) (is-taken c.index_mut-extent.result.now c.args.size c.in_ok-cell.cell x (sym (c.in_ok-cell.ensures.cell)))

pub address_of-address-requires-clause-cell : goal.address_of-address-requires-clause-cell
address_of-address-requires-clause-cell g c =
    let x = is-extent c.args.self.now.extents.items c.args.at c.index_mut-extent.result.now c.requires.order (c.requires.index, c.index_mut-extent.ensures.value) in
    let f = fit-within (cells_in c.index_mut-extent.result.now.pages) (cells_for c.args.size) 0 c.in_ok-cell.cell c.index_mut-extent.result.now.blocks x.blocks (sym (c.in_ok-cell.ensures.cell)) in
    let p = ap (λ (e : Extent). e.pages) (c.in_ok-cell.ensures.extent) in
    omega (arith, f.1, p)

pub longest-requires : goal.longest-requires
longest-requires g c =
    let x = is-extent c.args.self.now.extents.items c.args.at c.index_mut-extent.result.now c.requires.order (c.requires.index, c.index_mut-extent.ensures.value) in
    subst IsExtent (sym (c.in_ok-cell.ensures.extent)) (is-taken c.index_mut-extent.result.now c.args.size c.in_ok-cell.cell x (sym (c.in_ok-cell.ensures.cell)))

pub returns : goal.returns
returns g c =
    rw c.address_of-address.ensures (taken-some c.args.self.now.extents.items c.args.at c.args.size c.in_ok-cell.cell c.index_mut-extent.result.now c.take.new.self (c.requires.index, c.index_mut-extent.ensures.value) (c.in_ok-cell.ensures.extent) (c.in_ok-cell.ensures.cell))

pub index_mut-extent-requires : goal.index_mut-extent-requires
index_mut-extent-requires g c = omega (arith, c.requires.index)

pub set_longest-requires : goal.set_longest-requires
set_longest-requires g c = rooms-reach c.args.self.now.rooms.rooms.items c.args.self.now.extents.items c.args.at c.args.self.now.alike (c.requires.index)

pub invariant_of-self : goal.invariant_of-self
invariant_of-self g c = record {
  alike = (same-rooms c.args.self.now.rooms.rooms.items c.args.self.now.extents.items c.args.at c.index_mut-extent.result.now c.take.new.self c.requires.order c.args.self.now.alike (c.requires.index, c.index_mut-extent.ensures.value) c.in_err-cell.ensures.extent).1;
}

pub invariant_of-self-2 : goal.invariant_of-self-2
invariant_of-self-2 g c = record {
  alike = rooms-longest c.args.self.now.rooms.rooms.items c.set_longest.new.self.rooms.items c.args.self.now.extents.items c.args.at c.longest.result c.index_mut-extent.result.now c.take.new.self c.args.self.now.alike (c.requires.index, c.index_mut-extent.ensures.value)
      (ap (λ (e : Extent). e.first) (c.in_ok-cell.ensures.extent)) (ap (λ (e : Extent). e.mtype) (c.in_ok-cell.ensures.extent)) c.longest.ensures c.set_longest.ensures;
}
