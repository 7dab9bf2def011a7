use Rattle.std.proofs.Common.{◌≡◌, ◌++◌, map, drop}
use Rattle.std.specs.List.{filter}
use Rattle.open_agents.specs.OpenItems.{manager_of, manages, managers_of}
use Rattle.open_agents.specs.Blocks.{items_in}
use Rattle.open_agents.proofs.opens.managers_among.Given as goal

abbrev pub invariant-loop-slot : goal.invariant-loop-slot
invariant-loop-slot g l = l.found.items ++ map manager_of (filter (manages l.handle) (items_in (drop l.slot-index l.slots))) ≡ managers_of (items_in l.slots) l.handle
