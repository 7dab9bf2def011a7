use Rattle.guid_handles.proofs.Grouped.{take_next, take_whole}
use Rattle.std.proofs.Common.{refl, ◌∙◌, arith}
use Rattle.std.proofs.lemmas.Result.{IfOk-from_err}
use Rattle.guid_handles.proofs.groups.Groups.try_copy.Goals as goal

pub invariant_of-result : goal.invariant_of-result
invariant_of-result g c =
    let e = rw c.deref-group-items.ensures.value at c.loop-group-test.false in
    rw (c.loop-group.invariant, ← c.self.view_is, take_whole _ _ e) c.self.invariant

pub loop-group-preserved : goal.loop-group-preserved
loop-group-preserved g c =
    let e = c.deref-group-items.ensures.value in
    let copied = rw c.in_ok-try_copy.ensures at c.in_ok-push.ensures.items in
    rw (← c.self.view_is, ← e) (rw (c.loop-group.invariant, ← c.self.view_is, ← e) at copied ∙ take_next _ c.loop-group.group-index _ c.loop-group-test.true c.group-item.is)

pub returns : goal.returns
returns g c =
    let e = rw c.deref-group-items.ensures.value at c.loop-group-test.false in
    rw (c.loop-group.invariant, ← c.self.view_is, take_whole _ _ e) refl

pub returns-in_err-reserve : goal.returns-in_err-reserve
returns-in_err-reserve g c = IfOk-from_err c.from_residual.result _ c.from_residual.ensures.0

pub loop-group-init : goal.loop-group-init
loop-group-init g c = rw c.reserve.ensures.items c.new-groups.ensures.items

pub returns-in_err-try_copy : goal.returns-in_err-try_copy
returns-in_err-try_copy g c = IfOk-from_err c.from_residual-in_err-try_copy.result _ c.from_residual-in_err-try_copy.ensures.0

pub returns-in_err-push : goal.returns-in_err-push
returns-in_err-push g c = IfOk-from_err c.from_residual-in_err-push.result _ c.from_residual-in_err-push.ensures.0

pub bounds-group-items-group-index : goal.bounds-group-items-group-index
bounds-group-items-group-index g c = c.loop-group-test.true

pub loop-group-smaller : goal.loop-group-smaller
loop-group-smaller g c = omega (arith, c.loop-group-test.true)

pub offset_bounds-group-items-group-index : goal.offset_bounds-group-items-group-index
offset_bounds-group-items-group-index g c = omega (arith, c.loop-group-test.true)
