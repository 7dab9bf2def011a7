use Rattle.std.proofs.Common.{refl, sym, ◌∙◌}
use Rattle.driver_connect.proofs.stopping.disconnect.Goals as goal

pub returns-then-is_refused : goal.returns-then-is_refused
returns-then-is_refused g c = (sym c.is_refused.ensures ∙ c.if-is_refused.true, refl, refl)

pub returns-in_default : goal.returns-in_default
returns-in_default g c = (sym c.is_refused.ensures ∙ c.if-is_refused.false, refl, refl)

pub returns-in-Ok-true : goal.returns-in-Ok-true
returns-in-Ok-true g c = (sym c.is_refused.ensures ∙ c.if-is_refused.false, rw (c.as_slice.ensures.value ∙ c.in-Ok.ensures, c.in-Ok-true.field-0-test) at c.in-Ok-true.ensures.ok)

pub returns-in-Ok-false : goal.returns-in-Ok-false
returns-in-Ok-false g c = (sym c.is_refused.ensures ∙ c.if-is_refused.false, rw (c.as_slice.ensures.value ∙ c.in-Ok.ensures, c.in-Ok-false.field-0-test) at c.in-Ok-false.ensures.ok)

pub returns : goal.returns
returns g c = (sym c.is_refused.ensures ∙ c.if-is_refused.false, c.in-Err.ensures.err_handles, c.in-Err.ensures.err_opens)
