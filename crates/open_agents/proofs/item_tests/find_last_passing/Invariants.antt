use Rattle.open_agents.specs.Blocks.{NoneFrom}
use Rattle.open_agents.proofs.item_tests.find_last_passing.Given as goal

abbrev pub invariant-loop-index : goal.invariant-loop-index
invariant-loop-index g l = NoneFrom (g.T.ItemTest.meaning l.test) l.near.slots.now l.near.places.now l.index
