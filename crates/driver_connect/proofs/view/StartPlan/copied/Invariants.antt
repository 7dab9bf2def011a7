use Rattle.std.proofs.Common.{◌≡◌, [], map, take}
use Rattle.driver_connect.proofs.view.StartPlan.copied.Given as goal

abbrev pub invariant-loop-guid : goal.invariant-loop-guid
invariant-loop-guid l = (l.copy-inside.opens.items ≡ take l.guid-index l.self-inside.opens.items) × (map (λ c. c.items) l.copy-inside.children.items ≡ [])

abbrev pub invariant-loop-child : goal.invariant-loop-child
invariant-loop-child l =
    (l.copy-inside.opens.items ≡ l.initial.copy-inside.opens.items)
    × (map (λ c. c.items) l.copy-inside.children.items ≡ map (λ c. c.items) (take l.child-index l.child-items))
