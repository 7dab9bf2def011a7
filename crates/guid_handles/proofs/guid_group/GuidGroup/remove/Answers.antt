use Rattle.guid_handles.proofs.Beside.{absent_same, beside_absent, beside_remove, remove_beside}
use Rattle.guid_handles.proofs.guid_group.GuidGroup.remove.Goals as goal

pub invariant_of-self : goal.invariant_of-self
invariant_of-self g c = rw (c.remove.ensures.items, c.remove-in-Some.ensures.items) (remove_beside _ _ _ c.self.invariant)

pub returns-in-Some-clause-stamps : goal.returns-in-Some-clause-stamps
returns-in-Some-clause-stamps g c = λ n.
    rw (← c.self.view_is, c.remove.ensures.items, c.remove-in-Some.ensures.items) (beside_remove _ _ _ c.args.handle n c.self.invariant (rw c.as_slice.ensures.value at c.in-Some.ensures.there))

pub returns-in_default-clause-stamps : goal.returns-in_default-clause-stamps
returns-in_default-clause-stamps g c = λ n.
    rw (← c.self.view_is) (absent_same c.args.handle n _ _ (beside_absent c.args.handle _ _ (rw c.as_slice.ensures.value at c.in_default.ensures.none)))
