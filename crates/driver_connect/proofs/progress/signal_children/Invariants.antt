use Rattle.std.proofs.Common.{◌≡◌, ◌++◌, map, drop}
use Rattle.driver_connect.specs.Starting.{events_of_all}
use Rattle.driver_connect.proofs.progress.signal_children.Given as goal

abbrev pub invariant-loop-child : goal.invariant-loop-child
invariant-loop-child g l =
    l.events.items ++ events_of_all l.notify (map (λ c. c.items) (drop l.child-index l.children))
    ≡ l.fn.events.items ++ events_of_all l.notify (map (λ c. c.items) l.children)
