use Rattle.std.proofs.Common.{◌≡◌, ◌<◌, ℕ}
use Rattle.std.specs.Prelude.{slice_get}
use Rattle.std.specs.Int.{bit_at}
use Rattle.descriptor_table.specs.Summaries.{IsFreeRun}
use Rattle.descriptor_table.proofs.free_marks.marks_of.Given as goal

-- each free run so far is marked
abbrev pub invariant-loop-index : goal.invariant-loop-index
invariant-loop-index l = (i : ℕ) → i < l.index → IsFreeRun (slice_get l.runs i) → bit_at l.marks i ≡ 1
