use Rattle.std.proofs.Common.{◌≡◌, ◌++◌}
use Rattle.open_agents.specs.OpenItems.{items_on}
use Rattle.open_agents.specs.Blocks.{items_near}
use Rattle.open_agents.proofs.opens.items_among.Given as goal

abbrev pub invariant-loop-o : goal.invariant-loop-o
invariant-loop-o g l = l.found.items ++ items_on l.o-iterator l.handle l.guid ≡ items_on (items_near l.near) l.handle l.guid
