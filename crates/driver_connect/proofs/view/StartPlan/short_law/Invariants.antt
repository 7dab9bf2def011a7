use Rattle.std.proofs.Common.{◌≤◌, length, take}
use Rattle.std.specs.List.{AllByRecursion}
use Rattle.driver_connect.proofs.view.StartPlan.short_law.Given as goal

abbrev pub invariant-loop-child : goal.invariant-loop-child
invariant-loop-child l = AllByRecursion (λ c. length c.items ≤ 4) (take l.child-index l.children)
