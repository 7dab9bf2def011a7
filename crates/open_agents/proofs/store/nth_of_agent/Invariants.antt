use Rattle.std.proofs.Common.{◌≡◌, drop, slice_get}
use Rattle.open_agents.specs.Blocks.{items_in}
use Rattle.open_agents.specs.Listed.{items_of}
use Rattle.open_agents.proofs.store.nth_of_agent.Given as goal

abbrev pub invariant-loop-slot : goal.invariant-loop-slot
invariant-loop-slot l = slice_get (items_of (items_in l.slots) l.agent) l.index ≡ slice_get (items_of (items_in (drop l.slot-index l.slots)) l.agent) l.left
