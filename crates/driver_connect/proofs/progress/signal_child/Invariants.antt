use Rattle.std.proofs.Common.{◌≡◌, ◌++◌, drop}
use Rattle.driver_connect.specs.Starting.{events_of}
use Rattle.driver_connect.proofs.progress.signal_child.Given as goal

abbrev pub invariant-loop-pair : goal.invariant-loop-pair
invariant-loop-pair g l = l.events.items ++ events_of l.notify (drop l.pair-index l.child) ≡ l.fn.events.items ++ events_of l.notify l.child
