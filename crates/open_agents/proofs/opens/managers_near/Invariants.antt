use Rattle.std.proofs.Common.{◌≡◌, ◌++◌}
use Rattle.open_agents.specs.OpenItems.{managers_of}
use Rattle.open_agents.specs.Blocks.{items_near}
use Rattle.open_agents.proofs.opens.managers_near.Given as goal

abbrev pub invariant-loop-o : goal.invariant-loop-o
invariant-loop-o g l = l.found.items ++ managers_of l.o-iterator l.handle ≡ managers_of (items_near l.near) l.handle
