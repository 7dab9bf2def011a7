use Rattle.std.proofs.Common.{◌∙◌}
use Rattle.pool_services.proofs.ExtentChanges.{insert-at}
use Rattle.pool_services.proofs.RoomLists.{rooms-inserted}
use Rattle.pool_services.proofs.extent_group.ExtentGroup.add.Goals as goal

pub returns : goal.returns
returns g c =
    c.insert_with_room.ensures
    ∙ insert-at c.args.extent c.args.self.now.extents.items c.count_up_to-at.result c.range.result.first c.range.ensures.first (c.count_up_to-at.ensures.place c.args.self.now.extents.items c.requires.order (c.as_slice.ensures.value ∙ c.args.self.now.alike))

pub invariant_of-self : goal.invariant_of-self
invariant_of-self g c = record {
  alike = rooms-inserted c.args.self.now.rooms.rooms.items c.insert.new.self.rooms.items c.args.self.now.extents.items c.insert_with_room.new.items.items c.count_up_to-at.result c.args.extent c.room.result c.args.self.now.alike c.room.ensures c.insert.ensures
      c.insert_with_room.ensures;
}
