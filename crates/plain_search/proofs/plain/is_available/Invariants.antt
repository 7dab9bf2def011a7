use Rattle.std.proofs.Common.{◌≡◌, drop}
use Rattle.page_ranges.specs.Memory.{page_at}
use Rattle.page_ranges.specs.Runs.{pages_of}
use Rattle.plain_search.proofs.plain.is_available.Given as goal

-- the page is not in the runs so far
abbrev pub invariant-loop-run : goal.invariant-loop-run
invariant-loop-run l = page_at (pages_of (drop l.run-index l.runs)) l.page ≡ page_at (pages_of l.runs) l.page
