use Rattle.std.proofs.Common.{refl, arith}
use Rattle.pool_services.proofs.ExtentLists.{is-extent}
use Rattle.pool_services.proofs.ExtentChanges.{freed-alike, held-at, is-freed}
use Rattle.pool_services.proofs.RoomLists.{rooms-longest}
use Rattle.pool_services.proofs.Reached.{rooms-reach}
use Rattle.pool_services.proofs.extent_group.ExtentGroup.give.Goals as goal

pub index_mut-extent-requires : goal.index_mut-extent-requires
index_mut-extent-requires g c =
    let (e, h, q) = c.requires.holder in
    omega (arith, h.0)

pub give-given-requires-clause-extent : goal.give-given-requires-clause-extent
give-given-requires-clause-extent g c =
    let k = held-at c.args.address c.args.self.now.extents.items c.args.at c.index_mut-extent.result.now c.requires.holder c.index_mut-extent.ensures.value in
    is-extent c.args.self.now.extents.items c.args.at c.index_mut-extent.result.now c.requires.order k.0

pub give-given-requires-clause-in_extent : goal.give-given-requires-clause-in_extent
give-given-requires-clause-in_extent g c =
    (held-at c.args.address c.args.self.now.extents.items c.args.at c.index_mut-extent.result.now c.requires.holder c.index_mut-extent.ensures.value).1

pub longest-requires : goal.longest-requires
longest-requires g c =
    let k = held-at c.args.address c.args.self.now.extents.items c.args.at c.index_mut-extent.result.now c.requires.holder c.index_mut-extent.ensures.value in
    is-freed c.args.address c.index_mut-extent.result.now c.give-given.new.self c.give-given.result (is-extent c.args.self.now.extents.items c.args.at c.index_mut-extent.result.now c.requires.order k.0) c.give-given.ensures

pub set_longest-requires : goal.set_longest-requires
set_longest-requires g c =
    let (e, h, q) = c.requires.holder in
    rooms-reach c.args.self.now.rooms.rooms.items c.args.self.now.extents.items c.args.at c.args.self.now.alike h.0

pub returns : goal.returns
returns g c = (
  c.index_mut-extent.result.now,
  c.give-given.new.self,
  (held-at c.args.address c.args.self.now.extents.items c.args.at c.index_mut-extent.result.now c.requires.holder c.index_mut-extent.ensures.value).0,
  c.give-given.ensures,
  refl,
)

pub invariant_of-self : goal.invariant_of-self
invariant_of-self g c =
    let k = held-at c.args.address c.args.self.now.extents.items c.args.at c.index_mut-extent.result.now c.requires.holder c.index_mut-extent.ensures.value in
    let s = freed-alike c.args.address c.index_mut-extent.result.now c.give-given.new.self c.give-given.result c.give-given.ensures in
    record {
      alike = rooms-longest c.args.self.now.rooms.rooms.items c.set_longest.new.self.rooms.items c.args.self.now.extents.items c.args.at c.longest.result c.index_mut-extent.result.now c.give-given.new.self c.args.self.now.alike k.0 s.0 s.2 c.longest.ensures
          c.set_longest.ensures;
    }
