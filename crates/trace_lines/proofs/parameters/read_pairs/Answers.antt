use Rattle.std.proofs.Common.{inr, sym, ap, ◌∙◌, Ok, rules}
use Rattle.trace_lines.proofs.PairLists.{pair_read, all_read, guid_refused, value_refused}
use Rattle.trace_lines.proofs.parameters.read_pairs.Goals as goal

pub loop-rest-preserved : goal.loop-rest-preserved
loop-rest-preserved g c =
    sym (pair_read c.loop-rest.rest.now c.in-len2-up.len_at_least c.loop-rest.pairs.items c.in_ok-read_guid.field-0 c.in_ok-read_u64.field-0
    (sym c.read_guid.ensures ∙ c.in_ok-read_guid.was) (sym c.read_u64.ensures ∙ c.in_ok-read_u64.was) _ c.in_ok-push.ensures.items) ∙ c.loop-rest.invariant

pub returns : goal.returns
returns g c = inr (ap Ok c.new.ensures ∙ sym (all_read c.loop-rest.rest.now c.loop-rest.pairs.items c.in_default.len_below) ∙ c.loop-rest.invariant)

pub returns-in_err-read_guid : goal.returns-in_err-read_guid
returns-in_err-read_guid g c =
    let bad = guid_refused c.loop-rest.rest.now c.in-len2-up.len_at_least c.loop-rest.pairs.items _ (sym c.read_guid.ensures ∙ c.in_err-read_guid.was) in
    rw (sym c.loop-rest.invariant, bad) (search rules)

pub returns-in_err-read_u64 : goal.returns-in_err-read_u64
returns-in_err-read_u64 g c =
    let bad = value_refused c.loop-rest.rest.now c.in-len2-up.len_at_least c.loop-rest.pairs.items c.in_ok-read_guid.field-0 _ (sym c.read_guid.ensures ∙ c.in_ok-read_guid.was) (sym c.read_u64.ensures ∙ c.in_err-read_u64.was) in
    rw (sym c.loop-rest.invariant, bad) (search rules)
