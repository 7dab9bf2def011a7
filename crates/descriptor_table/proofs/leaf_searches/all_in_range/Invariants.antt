use Rattle.std.proofs.Common.{ℕ, ◌+◌, ◌-◌, ◌<◌, ◌≤◌}
use Rattle.page_ranges.specs.MemoryTypes.{page_count}
use Rattle.page_ranges.specs.Memory.{page_at}
use Rattle.page_ranges.specs.Runs.{pages_of}
use Rattle.descriptor_table.specs.Leaves.{runs_in}
use Rattle.descriptor_table.specs.PageTests.{Passes}
use Rattle.descriptor_table.proofs.leaf_searches.all_in_range.Given as goal

abbrev pub invariant-loop-run : goal.invariant-loop-run
invariant-loop-run g l = record {
  below : (k : ℕ) → l.range.first ≤ k → k < l.next → Passes l.test (page_at (pages_of (runs_in l.leaves)) k);
  from : l.range.first ≤ l.next;
  within : l.next < l.range.first + l.range.pages;
}

abbrev pub decreases-loop-run : goal.decreases-loop-run
decreases-loop-run g l = page_count + 1 - l.next
