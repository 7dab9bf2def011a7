use Rattle.std.proofs.Common.{◌≡◌, ◌+◌, ◌<◌, ◌≤◌, ℕ, Some}
use Rattle.std.specs.Prelude.{slice_get}
use Rattle.page_ranges.specs.declared.ranges.Run.{Run}
use Rattle.page_ranges.specs.MemoryTypes.{conventional}
use Rattle.descriptor_table.specs.Leaves.{run_before}
use Rattle.descriptor_table.specs.Summaries.{AllowsRun}
use Rattle.descriptor_table.proofs.summaries.summary_between.Given as goal

-- the free runs from the first index on are allowed so far
abbrev pub invariant-loop-index : goal.invariant-loop-index
invariant-loop-index l = (i : ℕ) (r : Run) → l.low ≤ i → i < l.index → slice_get l.runs i ≡ Some r → r.mtype ≡ conventional → AllowsRun l.summary (run_before l.runs i) r (slice_get l.runs (i + 1))
