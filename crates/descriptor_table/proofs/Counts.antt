-- How many entries the map of runs has, by its first two runs and the runs after the first.
use Rattle.std.proofs.Common.{◌≡◌, ℕ, ◌+◌, ◌-◌, ◌<◌, ◌≤◌, Bool, cond, List, [], ◌∷◌, length, get_or, take, drop, sym, subst, refl, ap₂, ◌∙◌, arith}
use Rattle.std.proofs.lemmas.List.{take_rest}
use Rattle.page_ranges.specs.declared.ranges.Run.{Run}
use Rattle.page_ranges.specs.MemoryMap.{should_be_one}
use Rattle.page_ranges.specs.Runs.{AreRuns}
use Rattle.page_ranges.proofs.RunMaps.{length_at, length_at_last}
use Rattle.descriptor_table.specs.Leaves.{entry_count}
use Rattle.descriptor_table.specs.Tables.{entry_of, EndBy}

-- all runs but the first, as a slice
abbrev behind_first : List Run → List Run
behind_first rs = take (length rs - 1) (drop 1 rs)

pub runs_behind : (rs : List Run) → AreRuns rs → AreRuns (behind_first rs)
runs_behind [] runs = runs
runs_behind (r ∷ rs) runs = subst AreRuns (sym (take_rest (r ∷ rs) 1)) runs.2

pub ends_behind : (n : ℕ) (rs : List Run) → EndBy n rs → EndBy n (behind_first rs)
ends_behind n [] ends = ends
ends_behind n (r ∷ rs) ends = subst (EndBy n) (sym (take_rest (r ∷ rs) 1)) ends.1

-- two runs or more, and the answer whether the second goes on in the first one's entry
pub count_behind : (rs : List Run) (r s : Run) (joins : Bool) → AreRuns rs → 2 ≤ length rs → r ≡ get_or rs 0 r → s ≡ get_or rs 1 s → joins ≡ should_be_one (entry_of r) (entry_of s)
    → entry_count rs ≡ cond joins 0 1 + entry_count (behind_first rs)
count_behind rs r s joins runs h e f g =
    length_at rs 0 r s runs h
    ∙ ap₂ (λ a b. cond (should_be_one (entry_of a) (entry_of b)) 0 1 + entry_count (drop 1 rs)) (sym e) (sym f)
    ∙ ap₂ (λ b ss. cond b 0 1 + entry_count ss) (sym g) (sym (take_rest rs 1))

-- one run, or none
pub count_few : (rs : List Run) → AreRuns rs → length rs < 2 → entry_count rs ≡ length rs
count_few [] runs h = refl
count_few (r ∷ []) runs h = length_at_last (r ∷ []) 0 runs refl
count_few (r ∷ s ∷ rs) runs h = absurd (omega arith)
