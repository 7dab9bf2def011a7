use Rattle.std.proofs.Common.{inl, inr, refl, sym, ◌∙◌}
use Rattle.std.specs.Prelude.{string_bytes}
use Rattle.reply_texts.proofs.CallTexts.{prints_call}
use Rattle.boot_trace.proofs.runner.make_call.Goals as goal

pub returns-in-Ok-print_call-clause-ok : goal.returns-in-Ok-print_call-clause-ok
returns-in-Ok-print_call-clause-ok g c = (
  c.call-reply.result,
  c.call-reply.ensures.step,
  prints_call c.args.certify c.args.number c.args.services.now.state.parts.book c.args.call.now c.call-reply.result (string_bytes c.args.text.now) (string_bytes c.print_call.new.text) _ c.in-Ok-print_call.ensures.0 c.in-Ok-print_call.ensures.1 c.requires c.in-Ok.ensures (rw c.granule-granule.ensures at c.in-Ok-print_call.ensures.2),
)

pub returns-clause-err : goal.returns-clause-err
returns-clause-err g c = inr (c.call-reply.result, c.call-reply.ensures.step)

pub returns-then-calls_left-eq0-clause-ok : goal.returns-then-calls_left-eq0-clause-ok
returns-then-calls_left-eq0-clause-ok g c = tt

pub returns-then-calls_left-eq0-clause-err : goal.returns-then-calls_left-eq0-clause-err
returns-then-calls_left-eq0-clause-err g c = (tt, sym c.calls_left.ensures ∙ c.if-calls_left-eq0.true, refl)

pub returns-in_default-clause-ok : goal.returns-in_default-clause-ok
returns-in_default-clause-ok g c = tt

pub returns-in_default-clause-err : goal.returns-in_default-clause-err
returns-in_default-clause-err g c = inl refl

pub returns-in-Ok-print_call-clause-err : goal.returns-in-Ok-print_call-clause-err
returns-in-Ok-print_call-clause-err g c = tt

pub returns-clause-ok : goal.returns-clause-ok
returns-clause-ok g c = tt

pub returns-then-calls_left-eq0-clause-given : goal.returns-then-calls_left-eq0-clause-given
returns-then-calls_left-eq0-clause-given g c = refl

pub returns-in_default-clause-given : goal.returns-in_default-clause-given
returns-in_default-clause-given g c = refl

pub returns-in-Ok-print_call-clause-given : goal.returns-in-Ok-print_call-clause-given
returns-in-Ok-print_call-clause-given g c = c.call-reply.ensures.given

pub returns-clause-given : goal.returns-clause-given
returns-clause-given g c = c.call-reply.ensures.given
