use Rattle.std.proofs.Common.{inr, sym, ap, ◌∙◌, Ok, rules, arith}
use Rattle.trace_lines.proofs.NumberLists.{number_read, number_refused, numbers_read}
use Rattle.trace_lines.proofs.parameters.read_handles.Goals as goal

pub loop-word-preserved : goal.loop-word-preserved
loop-word-preserved g c =
    sym (number_read c.args.words.now c.loop-word.word-index (omega arith) c.loop-word.handles.items c.in_ok-read_u64.field-0 (sym c.read_u64.ensures ∙ c.in_ok-read_u64.was) _ c.in_ok-push.ensures.items) ∙ c.loop-word.invariant

pub returns-in_err-read_u64 : goal.returns-in_err-read_u64
returns-in_err-read_u64 g c =
    let bad = number_refused c.args.words.now c.loop-word.word-index (omega arith) c.loop-word.handles.items _ (sym c.read_u64.ensures ∙ c.in_err-read_u64.was) in
    rw (sym c.loop-word.invariant, bad) (search rules)

pub returns : goal.returns
returns g c = inr (ap Ok c.new.ensures ∙ sym (numbers_read c.args.words.now c.loop-word.word-index c.loop-word-test.false c.loop-word.handles.items) ∙ c.loop-word.invariant)
