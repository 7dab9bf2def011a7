-- Machines for tests, made run by run.
use Rattle.std.proofs.Common.{◌+◌, ◌<◌, ◌≤◌, List, [], ◌∷◌, ◌++◌, arith}
use Rattle.page_ranges.specs.declared.ranges.Run.{Run}
use Rattle.page_ranges.specs.Memory.{IsProperMemory}
use Rattle.page_ranges.specs.Runs.{pages_of}
use Rattle.page_ranges.proofs.Members.{all_append}
use Rattle.page_ranges.proofs.RunLists.{runs-append, EndBy-higher, IsProperRun, proper_runs, proper_pages}
use Rattle.plain_search.specs.RunsBy.{AreRunsBy}

pub run_added : (rs : List Run) (r : Run) → AreRunsBy r.range.first rs → 0 < r.range.pages → AreRunsBy (r.range.first + r.range.pages) (rs ++ r ∷ [])
run_added rs r by some = record {
  order = runs-append r.range.first rs (r ∷ []) by.order by.ends (some, tt, tt) (omega arith, tt);
  ends = all_append (λ s. s.range.first + s.range.pages ≤ r.range.first + r.range.pages) rs (r ∷ []) (EndBy-higher r.range.first (r.range.first + r.range.pages) rs (omega arith) by.ends) (omega arith, tt);
}

pub still_proper : (rs : List Run) (r : Run) → AreRunsBy r.range.first rs → 0 < r.range.pages → IsProperMemory (pages_of rs) → IsProperRun r → IsProperMemory (pages_of (rs ++ r ∷ []))
still_proper rs r by some proper is = proper_pages (rs ++ r ∷ []) (run_added rs r by some).order (all_append IsProperRun rs (r ∷ []) (proper_runs rs by.order proper) (is, tt))
