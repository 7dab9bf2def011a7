use Rattle.std.proofs.Common.{◌≡◌, false, true, ◌∙◌, ap, is_some, sym}
use Rattle.guid_handles.proofs.Beside.{beside_absent, beside_set, set_beside}
use Rattle.guid_handles.proofs.guid_group.GuidGroup.restamp.Goals as goal

pub invariant_of-self : goal.invariant_of-self
invariant_of-self g c = set_beside _ _ _ _ c.self.invariant

pub returns-in-Some-clause-stamps : goal.returns-in-Some-clause-stamps
returns-in-Some-clause-stamps g c = λ n. rw (← c.self.view_is) (beside_set _ _ _ c.args.handle c.args.stamp n c.self.invariant (rw c.as_slice.ensures.value at c.in-Some.ensures.there))

pub returns-in_default-clause-stamps : goal.returns-in_default-clause-stamps
returns-in_default-clause-stamps g c = λ n.
    let none = beside_absent c.args.handle _ c.self.inside.stamps.items (rw c.as_slice.ensures.value at c.in_default.ensures.none) in
    let w : false ≡ true = sym (ap is_some none) ∙ rw (← c.self.view_is) at c.requires in absurd cc
