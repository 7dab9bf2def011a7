use Rattle.std.proofs.Common.{◌≡◌, map, drop}
use Rattle.std.specs.List.{list_all}
use Rattle.driver_connect.specs.Starting.{is_child}
use Rattle.driver_connect.proofs.progress.are_children.Given as goal

abbrev pub invariant-loop-child : goal.invariant-loop-child
invariant-loop-child l = list_all is_child (map (λ c. c.items) l.children) ≡ list_all is_child (map (λ c. c.items) (drop l.child-index l.children))
