use Rattle.std.proofs.Common.{◌≡◌, drop}
use Rattle.std.specs.List.{list_all}
use Rattle.driver_connect.specs.Stopping.{is_no_obstacle, is_unobstructed}
use Rattle.driver_connect.proofs.Unobstructed.{on_only}
use Rattle.driver_connect.proofs.protocols.Lists.is_unobstructed.Given as goal

abbrev pub invariant-loop-n : goal.invariant-loop-n
invariant-loop-n g l =
    is_unobstructed l.self.handles.now l.self.opens.now l.set
    ≡ list_all (λ n. list_all (on_only (is_no_obstacle l.self.handles.now l.set) n) l.self.opens.now) (drop l.n-index l.made)
