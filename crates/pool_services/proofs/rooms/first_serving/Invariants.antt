use Rattle.pool_services.specs.Rooms.{NoneServes}
use Rattle.pool_services.proofs.rooms.first_serving.Given as goal

abbrev pub invariant-loop-at : goal.invariant-loop-at
invariant-loop-at l = NoneServes l.mtype l.cells l.rooms l.at
