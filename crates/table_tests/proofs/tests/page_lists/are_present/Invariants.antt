use Rattle.std.proofs.Common.{ℕ, ◌<◌, ◌≤◌}
use Rattle.page_ranges.specs.Memory.{page_at, IsPresent}
use Rattle.table_tests.proofs.tests.page_lists.are_present.Given as goal

-- the pages so far are present
abbrev pub invariant-loop-page : goal.invariant-loop-page
invariant-loop-page g l = (k : ℕ) → l.fn.range.first ≤ k → k < l.page → IsPresent (page_at l.table.pages k)
