use Rattle.pool_services.proofs.RoomLists.{first-returned}
use Rattle.pool_services.proofs.extent_group.ExtentGroup.first.Goals as goal

pub returns-clause-first : goal.returns-clause-first
returns-clause-first g c =
    first-returned c.args.mtype c.args.size c.cells_for.result c.first.result c.args.self.now.rooms.rooms.items c.args.self.now.extents.items c.args.self.now.alike c.cells_for.ensures c.first.ensures.first
