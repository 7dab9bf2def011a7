use Rattle.std.proofs.Common.{ℕ, ◌<◌, ◌≤◌}
use Rattle.page_ranges.specs.Memory.{page_at}
use Rattle.page_ranges.specs.Runs.{pages_of}
use Rattle.placement_certificate.specs.Placement.{IsAvailable}
use Rattle.plain_search.proofs.plain.is_permitted.Given as goal

-- the pages so far are available
abbrev pub invariant-loop-page : goal.invariant-loop-page
invariant-loop-page l = (k : ℕ) → l.start ≤ k → k < l.page → IsAvailable (page_at (pages_of l.runs) k)
