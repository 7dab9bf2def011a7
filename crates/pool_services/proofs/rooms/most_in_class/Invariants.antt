use Rattle.std.proofs.Common.{◌≡◌, ℕ, ◌<◌, ◌≤◌}
use Rattle.pool_services.specs.declared.rooms.Room.{Room}
use Rattle.pool_services.specs.Rooms.{IsRoomAt, class_of}
use Rattle.pool_services.proofs.rooms.most_in_class.Given as goal

abbrev pub invariant-loop-at : goal.invariant-loop-at
invariant-loop-at l = (i : ℕ) (r : Room) → i < l.at → IsRoomAt l.rooms i r → class_of r.mtype ≡ l.class → r.longest ≤ l.most
