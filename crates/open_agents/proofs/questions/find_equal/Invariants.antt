use Rattle.std.proofs.Common.{◌≡◌, drop}
use Rattle.std.specs.List.{list_any}
use Rattle.open_agents.specs.OpenRequests.{asks_for}
use Rattle.open_agents.specs.Blocks.{items_at}
use Rattle.open_agents.proofs.questions.find_equal.Given as goal

abbrev pub invariant-loop-place : goal.invariant-loop-place
invariant-loop-place l = list_any (asks_for l.request) (items_at l.near.slots.now l.near.places.now) ≡ list_any (asks_for l.request) (items_at l.near.slots.now (drop l.place-index l.near.places.now))
