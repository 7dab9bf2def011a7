use Rattle.std.proofs.Common.{◌≡◌, [], drop}
use Rattle.open_agents.specs.Blocks.{items_in}
use Rattle.open_agents.proofs.questions.find_last.Given as goal

abbrev pub invariant-loop-place : goal.invariant-loop-place
invariant-loop-place l = items_in (drop l.place l.slots) ≡ []
