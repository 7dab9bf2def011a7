use Rattle.std.proofs.Common.{◌≡◌, ◌++◌, ◌∷◌, [], arith, rules, length, length-append, vec_len, ne_eqb}
use Rattle.text_lines.proofs.LineBytes.{taken-more, none-more, line-ended, bytes-ended, line-too-long}
use Rattle.text_lines.proofs.lines.next_line.Goals as goal

pub returns-in-Ok-None : goal.returns-in-Ok-None
returns-in-Ok-None g c =
    let count : vec_len c.loop-taken.line ≡ length c.loop-taken.line.items = search rules in
    rw (c.is_empty.ensures, count) (bytes-ended _ _ _ _ c.loop-taken.invariant.taken c.loop-taken.invariant.none (rw c.in-Ok-None.field-0-is at c.in-Ok-None.ensures.next))

pub returns-in-Ok-Some-eq10 : goal.returns-in-Ok-Some-eq10
returns-in-Ok-Some-eq10 g c = line-ended _ _ _ _ c.in-Ok-Some-eq10.field-0-0 c.loop-taken.invariant.taken c.loop-taken.invariant.none (rw c.in-Ok-Some-eq10.field-0-is at c.in-Ok-Some-eq10.ensures.next) c.in-Ok-Some-eq10.field-0-0-test

pub returns : goal.returns
returns g c = line-too-long _ _ _ c.loop-taken.invariant.taken c.loop-taken.invariant.none (omega (arith, c.loop-taken.invariant.count))

pub loop-taken-preserved : goal.loop-taken-preserved
loop-taken-preserved g c =
    let pushed : c.push.new.self.items ≡ c.loop-taken.line.items ++ c.in-Ok-Some.byte ∷ [] = search rules in
    record {
      taken = rw pushed (taken-more _ _ _ _ _ c.loop-taken.invariant.taken (rw c.in-Ok-Some.field-0-is at c.in-Ok-Some.ensures.next));
      none = rw pushed (none-more _ _ c.loop-taken.invariant.none (ne_eqb c.in-Ok-Some.byte 10 c.in-Ok-Some.byte-test.1));
      count = rw (pushed, length-append) (omega (arith, c.loop-taken.invariant.count));
    }
