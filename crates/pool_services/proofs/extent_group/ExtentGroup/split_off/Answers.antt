use Rattle.pool_services.proofs.RoomLists.{rooms-front, rooms-rest}
use Rattle.pool_services.proofs.extent_group.ExtentGroup.split_off.Goals as goal

pub invariant_of-self-2 : goal.invariant_of-self-2
invariant_of-self-2 g c = record {
  alike = rooms-front c.args.self.now.rooms.rooms.items c.truncate.new.self.rooms.items c.args.self.now.extents.items c.split_off.new.self.items c.args.at c.args.self.now.alike c.truncate.ensures c.in_ok-extents.ensures.items;
}

pub invariant_of-result : goal.invariant_of-result
invariant_of-result g c = record {
  alike = rooms-rest c.args.self.now.rooms.rooms.items c.in_ok-rooms.rooms.rooms.items c.args.self.now.extents.items c.in_ok-extents.extents.items c.args.at c.args.self.now.alike c.in_ok-rooms.ensures c.in_ok-extents.ensures.tail;
}
