-- Runs in order.
use Rattle.std.specs.Prelude.{ℕ, ◌+◌, ◌≤◌, List}
use Rattle.std.specs.List.{AllByRecursion}
use Rattle.page_ranges.specs.declared.ranges.Run.{Run}
use Rattle.page_ranges.specs.Runs.{AreRuns}

-- runs in order, all of which end by a number
pub record AreRunsBy (n : ℕ) (rs : List Run) : Type 0 where
  pub order : AreRuns rs
  pub ends : AllByRecursion (λ s. s.range.first + s.range.pages ≤ n) rs
