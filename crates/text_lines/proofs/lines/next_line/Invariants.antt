use Rattle.std.proofs.Common.{◌≡◌, length}
use Rattle.text_lines.proofs.LineBytes.{HasNone, HasTaken}
use Rattle.text_lines.proofs.lines.next_line.Given as goal

abbrev pub invariant-loop-taken : goal.invariant-loop-taken
invariant-loop-taken g l = record {
  taken : HasTaken (g.S.ByteSource.left l.initial.reader) l.line.items (g.S.ByteSource.left l.reader);
  none : HasNone l.line.items;
  count : length l.line.items ≡ l._taken;
}
