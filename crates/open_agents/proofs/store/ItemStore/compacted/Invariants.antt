use Rattle.std.proofs.Common.{◌≡◌, ◌++◌, drop}
use Rattle.open_agents.specs.Blocks.{items_in}
use Rattle.open_agents.proofs.store.ItemStore.compacted.Given as goal

abbrev pub invariant-loop-slot : goal.invariant-loop-slot
invariant-loop-slot g l = items_in l.fresh ++ items_in (drop l.slot-index l.slots) ≡ items_in l.slots
