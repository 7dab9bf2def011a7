use Rattle.std.proofs.Common.{◌≤◌, length, ap, subst, arith}
use Rattle.std.specs.List.{AllByRecursion}
use Rattle.std.proofs.lemmas.List.{take_all}
use Rattle.guid_handles.proofs.SortedLists.{all_mapped}
use Rattle.driver_connect.proofs.view.StartPlan.short_law.Goals as goal

pub returns : goal.returns
returns c =
    let children = c.self.inside.children.items in
    let whole : length children ≤ c.loop-child.child-index = omega (arith, c.loop-child-test.false, ap length c.as_slice-children.ensures.value) in
    rw (← c.self.view_is)
    (all_mapped (λ pairs. length pairs ≤ 4) (λ v. length v.items ≤ 4) (λ v. v.items) (λ v l. l) children
    (subst (λ vs. AllByRecursion (λ v. length v.items ≤ 4) vs) (take_all c.loop-child.child-index children whole) (rw c.as_slice-children.ensures.value at c.loop-child.invariant)))
