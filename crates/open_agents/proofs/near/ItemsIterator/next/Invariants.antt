use Rattle.std.proofs.Common.{◌≡◌, length}
use Rattle.open_agents.specs.Blocks.{items_at}
use Rattle.open_agents.proofs.near.ItemsIterator.next.Given as goal

abbrev pub invariant-loop-place : goal.invariant-loop-place
invariant-loop-place l = items_at l.self-inside.slots.now l.self-inside.places.now ≡ l.fn.self

abbrev pub decreases-loop-place : goal.decreases-loop-place
decreases-loop-place l = length l.self-inside.places.now
