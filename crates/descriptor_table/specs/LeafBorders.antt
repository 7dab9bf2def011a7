-- The border between a leaf and the next one.
use Rattle.std.specs.Prelude.{◌≡◌, ◌-◌, List, [], ◌∷◌, ◌++◌, length, slice_get}
use Rattle.page_ranges.specs.declared.ranges.Run.{Run}
use Rattle.page_ranges.specs.Runs.{IsApartRun, AreMaximalRuns, AreRuns}

-- The new runs are maximal between any others if the first old ones are maximal after those before,
-- and the next old ones with those after.
abbrev pub JoinsRuns : List Run → List Run → List Run → Type 0
JoinsRuns first next new =
    (before after : List Run) → AreMaximalRuns (before ++ first) → AreMaximalRuns (next ++ after)
    → AreRuns (before ++ ((first ++ next) ++ after)) → AreMaximalRuns (before ++ (new ++ after))

-- the first and the last run are kept
pub record HasEndsOf (old new : List Run) : Type 0 where
  pub first : slice_get new 0 ≡ slice_get old 0
  pub last : slice_get new (length new - 1) ≡ slice_get old (length old - 1)

-- the last of some runs and the first of others are not one
abbrev pub AreApart : List Run → List Run → Type 0
AreApart [] ss = Unit {0}
AreApart (r ∷ []) ss = IsApartRun r ss
AreApart (r ∷ q ∷ rs) ss = AreApart (q ∷ rs) ss
