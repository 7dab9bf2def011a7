use Rattle.std.proofs.Common.{◌≡◌, length}
use Rattle.trace_lines.proofs.Fronts.{with_front}
use Rattle.trace_lines.proofs.PairLists.{pairs_in}
use Rattle.trace_lines.proofs.parameters.read_pairs.Given as goal

abbrev pub invariant-loop-rest : goal.invariant-loop-rest
invariant-loop-rest g l = with_front l.pairs.items (pairs_in l.rest) ≡ pairs_in l.words

abbrev pub decreases-loop-rest : goal.decreases-loop-rest
decreases-loop-rest g l = length l.rest
