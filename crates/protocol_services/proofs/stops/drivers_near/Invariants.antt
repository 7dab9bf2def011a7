use Rattle.std.proofs.Common.{◌≡◌, ◌++◌}
use Rattle.open_agents.specs.Blocks.{items_near}
use Rattle.protocol_services.specs.Removing.{drivers_on}
use Rattle.protocol_services.proofs.stops.drivers_near.Given as goal

abbrev pub invariant-loop-o : goal.invariant-loop-o
invariant-loop-o g l = l.pairs.items ++ drivers_on l.o-iterator l.handle l.guid ≡ drivers_on (items_near l.near) l.handle l.guid
