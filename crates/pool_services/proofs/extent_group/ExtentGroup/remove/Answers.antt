use Rattle.pool_services.proofs.RoomLists.{rooms-gone}
use Rattle.pool_services.proofs.extent_group.ExtentGroup.remove.Goals as goal

pub invariant_of-self : goal.invariant_of-self
invariant_of-self g c = record {
  alike = rooms-gone c.args.self.now.rooms.rooms.items c.remove.new.self.rooms.items c.args.self.now.extents.items c.remove-2.new.self.items c.args.at c.args.self.now.alike c.remove.ensures c.remove-2.ensures.by_index.2;
}
