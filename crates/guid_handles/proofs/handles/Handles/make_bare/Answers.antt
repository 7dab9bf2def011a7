use Rattle.std.proofs.Common.{refl, arith}
use Rattle.guid_handles.proofs.Stored.{numbers_below, stored_handle}
use Rattle.std.proofs.lemmas.Result.{IfOk-from_err}
use Rattle.guid_handles.proofs.Refused.{on_err}
use Rattle.guid_handles.proofs.handles.Handles.make_bare.Goals as goal

pub push-requires : goal.push-requires
push-requires g c = numbers_below _ _ _ _ _ _ c.self.invariant

pub invariant_of-self-2 : goal.invariant_of-self-2
invariant_of-self-2 g c = rw c.in_ok-push.ensures.ok (stored_handle _ _ _ _ _ _ c.self.invariant c.args.maker (rw (← c.self.view_is) at c.requires.room)).1

pub returns-clause-ok : goal.returns-clause-ok
returns-clause-ok g c = rw (← c.self.view_is, c.in_ok-push.ensures.ok) (refl, (stored_handle _ _ _ _ _ _ c.self.invariant c.args.maker (rw (← c.self.view_is) at c.requires.room)).0)

pub returns-clause-proper : goal.returns-clause-proper
returns-clause-proper g c = rw (← c.self.view_is) c.self.invariant.table.proper

pub overflow_add-number : goal.overflow_add-number
overflow_add-number g c = omega (arith, rw (← c.self.view_is) at c.requires.numbers)

pub invariant_of-self : goal.invariant_of-self
invariant_of-self g c = rw c.in_err-push.ensures.err c.self.invariant

pub returns-in_err-push-clause-ok : goal.returns-in_err-push-clause-ok
returns-in_err-push-clause-ok g c = IfOk-from_err c.from_residual.result _ c.from_residual.ensures.0

pub returns-in_err-push-clause-proper : goal.returns-in_err-push-clause-proper
returns-in_err-push-clause-proper g c = rw (← c.self.view_is) c.self.invariant.table.proper

pub returns-in_err-push-clause-err : goal.returns-in_err-push-clause-err
returns-in_err-push-clause-err g c = on_err c.from_residual.result _ (rw (← c.self.view_is, c.in_err-push.ensures.err) refl)
