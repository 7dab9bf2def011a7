-- The order of runs.
use Rattle.std.proofs.Common.{◌≡◌, ℕ, zero, suc, ◌+◌, ◌<◌, ◌≤◌, List, [], ◌∷◌, length, get_or, take, drop, inl, inr, arith}
use Rattle.std.proofs.lemmas.Bool.{cases_lt}
use Rattle.std.specs.List.{AllByRecursion}
use Rattle.std.specs.List.Sorted.{IsNonDecreasingBy}
use Rattle.page_ranges.specs.declared.ranges.Run.{Run}
use Rattle.page_ranges.specs.Runs.{AreRuns}
use Rattle.page_ranges.proofs.RunLists.{ends_before}

pub firsts_rise : (rs : List Run) → AreRuns rs → IsNonDecreasingBy (λ r. r.range.first) rs
firsts_rise rs a i j d l h = elim (cases_lt i j) [ inl m ↦ omega (arith, ends_before rs i j d d a m h) | inr m ↦ let e : i ≡ j = omega arith in rw e (omega arith) ]

pub ends_rise : (rs : List Run) → AreRuns rs → IsNonDecreasingBy (λ r. r.range.first + r.range.pages) rs
ends_rise rs a i j d l h = elim (cases_lt i j) [ inl m ↦ omega (arith, ends_before rs i j d d a m h) | inr m ↦ let e : i ≡ j = omega arith in rw e (omega arith) ]

-- what holds of each run below an index holds of each of the runs that come first; and so for those that come last
pub all_taken : (P : Run → Type 0) (rs : List Run) (i : ℕ) → ((k : ℕ) (d : Run) → k < i → k < length rs → P (get_or rs k d)) → AllByRecursion P (take i rs)
all_taken P [] zero h = tt
all_taken P [] (suc i) h = tt
all_taken P (r ∷ rs) zero h = tt
all_taken P (r ∷ rs) (suc i) h = (h 0 r (omega arith) (omega arith), all_taken P rs i (λ k d l m. h (suc k) d (omega arith) (omega arith)))

pub all_dropped : (P : Run → Type 0) (rs : List Run) (i : ℕ) → ((k : ℕ) (d : Run) → i ≤ k → k < length rs → P (get_or rs k d)) → AllByRecursion P (drop i rs)
all_dropped P [] zero h = tt
all_dropped P [] (suc i) h = tt
all_dropped P (r ∷ rs) zero h = (h 0 r (omega arith) (omega arith), all_dropped P rs zero (λ k d l m. h (suc k) d (omega arith) (omega arith)))
all_dropped P (r ∷ rs) (suc i) h = all_dropped P rs i (λ k d l m. h (suc k) d (omega arith) (omega arith))
