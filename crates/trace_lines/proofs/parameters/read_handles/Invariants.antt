use Rattle.std.proofs.Common.{◌≡◌, drop}
use Rattle.trace_lines.proofs.Fronts.{with_front}
use Rattle.trace_lines.proofs.NumberLists.{numbers_in}
use Rattle.trace_lines.proofs.parameters.read_handles.Given as goal

abbrev pub invariant-loop-word : goal.invariant-loop-word
invariant-loop-word g l = with_front l.handles.items (numbers_in (drop l.word-index l.words)) ≡ numbers_in l.words
