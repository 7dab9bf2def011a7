use Rattle.std.proofs.Common.{set, ap, arith}
use Rattle.pool_services.specs.Extents.{Extent}
use Rattle.pool_services.proofs.ExtentLists.{is-extent}
use Rattle.pool_services.proofs.ExtentChanges.{held-at}
use Rattle.pool_services.proofs.RoomLists.{rooms-written}
use Rattle.pool_services.proofs.extent_group.ExtentGroup.write.Goals as goal

pub write-requires-clause-extent : goal.write-requires-clause-extent
write-requires-clause-extent g c =
    let k = held-at c.args.address c.args.self.now.extents.items c.args.at c.index_mut.result.now c.requires.holder c.index_mut.ensures.value in
    is-extent c.args.self.now.extents.items c.args.at c.index_mut.result.now c.requires.order k.0

pub write-requires-clause-in_extent : goal.write-requires-clause-in_extent
write-requires-clause-in_extent g c =
    (held-at c.args.address c.args.self.now.extents.items c.args.at c.index_mut.result.now c.requires.holder c.index_mut.ensures.value).1

pub returns : goal.returns
returns g c = (
  c.index_mut.result.now,
  (held-at c.args.address c.args.self.now.extents.items c.args.at c.index_mut.result.now c.requires.holder c.index_mut.ensures.value).0,
  c.write.ensures.written,
  ap (λ (z : Extent). set c.args.self.now.extents.items c.args.at z) c.write.ensures.extent,
)

pub index_mut-requires : goal.index_mut-requires
index_mut-requires g c =
    let (e, h, q) = c.requires.holder in
    omega (arith, h.0)

pub invariant_of-self : goal.invariant_of-self
invariant_of-self g c = record {
  alike = rooms-written c.args.self.now.rooms.rooms.items c.args.self.now.extents.items c.args.at c.index_mut.result.now c.write.new.self c.write.result c.args.address c.args.bytes.now c.args.self.now.alike
      (held-at c.args.address c.args.self.now.extents.items c.args.at c.index_mut.result.now c.requires.holder c.index_mut.ensures.value).0 c.write.ensures.extent;
}
