use Rattle.std.proofs.Common.{◌≡◌, drop}
use Rattle.driver_connect.specs.Stopping.{without_handles}
use Rattle.driver_connect.proofs.stopping.remove_handles.Given as goal

abbrev pub invariant-loop-at : goal.invariant-loop-at
invariant-loop-at g l = l.handles ≡ without_handles (drop l.at l.leaving) l.fn.handles
