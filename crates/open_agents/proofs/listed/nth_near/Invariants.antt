use Rattle.std.proofs.Common.{◌≡◌, slice_get}
use Rattle.open_agents.specs.OpenItems.{items_on}
use Rattle.open_agents.specs.Blocks.{items_near}
use Rattle.open_agents.proofs.listed.nth_near.Given as goal

abbrev pub invariant-loop-o : goal.invariant-loop-o
invariant-loop-o l = slice_get (items_on l.o-iterator l.handle l.guid) l.left ≡ slice_get (items_on (items_near l.near) l.handle l.guid) l.index
