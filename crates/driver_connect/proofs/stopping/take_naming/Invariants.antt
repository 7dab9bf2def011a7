use Rattle.std.proofs.Common.{◌≡◌, drop}
use Rattle.open_agents.specs.OpenItems.{without_items}
use Rattle.driver_connect.specs.Stopping.{names_any}
use Rattle.driver_connect.proofs.stopping.take_naming.Given as goal

abbrev pub invariant-loop-at : goal.invariant-loop-at
invariant-loop-at g l = l.opens ≡ without_items (names_any (drop l.at l.leaving)) l.fn.opens
