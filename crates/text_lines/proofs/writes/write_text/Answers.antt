use Rattle.std.proofs.Common.{◌≡◌, ◌-◌, take, drop, length, take_all, length-drop, arith, take-add}
use Rattle.text_lines.proofs.Written.{appends_more}
use Rattle.text_lines.proofs.writes.write_text.Goals as goal

pub loop-written-preserved : goal.loop-written-preserved
loop-written-preserved g c =
    let bytes = c.args.bytes.now in
    let written = c.loop-written.written in
    let rest : take (length bytes - written) (drop written bytes) ≡ drop written bytes = take_all (length bytes - written) (drop written bytes) (omega (arith, length-drop written bytes)) in
    let bound = rw rest at c.in-Ok.ensures.bound in
    record {
      within = omega (arith, bound, length-drop written bytes);
      front = rw take-add (appends_more _ _ _ _ _ c.loop-written.invariant.front (rw rest at c.in-Ok.ensures.bytes));
    }
