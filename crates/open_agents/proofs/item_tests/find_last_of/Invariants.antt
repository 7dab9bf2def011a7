use Rattle.std.proofs.Common.{◌≡◌, drop, false}
use Rattle.std.specs.List.{list_any}
use Rattle.open_agents.specs.Blocks.{items_in}
use Rattle.open_agents.proofs.item_tests.find_last_of.Given as goal

abbrev pub invariant-loop-at : goal.invariant-loop-at
invariant-loop-at g l = list_any (g.T.ItemTest.meaning l.test) (items_in (drop l.at l.slots)) ≡ false
