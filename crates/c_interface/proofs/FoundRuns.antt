-- A run of pages that is found at an index begins at an address of 64 bits.
use Rattle.std.proofs.Common.{◌≡◌, ℕ, zero, suc, ◌<◌, List, [], ◌∷◌, Some, inl, inr, subst}
use Rattle.std.specs.List.{AllByRecursion, slice_get}
use Rattle.std.proofs.lemmas.Bool.{cases_Bool}
use Rattle.page_ranges.specs.declared.ranges.Run.{Run}
use Rattle.page_ranges.specs.Memory.{Page, IsProperMemory, IsProperPage}
use Rattle.page_ranges.specs.MemoryTypes.{page_count}
use Rattle.page_ranges.specs.Runs.{run_of, runs_of, should_be_one_run, with_page_below_runs}

below : (x : Page) (rs : List Run) → x.number < page_count → AllByRecursion (λ r. r.range.first < page_count) rs → AllByRecursion (λ r. r.range.first < page_count) (with_page_below_runs x rs)
below x [] h a = (h, tt)
below x (r ∷ rs) h a = elim (cases_Bool (should_be_one_run (run_of x) r)) [
  | inl e ↦ rw e (h, a.1)
  | inr e ↦ rw e (h, a)
]

begin_within : (m : List Page) → AllByRecursion IsProperPage m → AllByRecursion (λ r. r.range.first < page_count) (runs_of m)
begin_within [] a = tt
begin_within (x ∷ xs) a = below x (runs_of xs) a.0.number (begin_within xs a.1)

one_of : (P : Run → Type 0) (rs : List Run) (i : ℕ) (r : Run) → AllByRecursion P rs → slice_get rs i ≡ Some r → P r
one_of P [] i r a e = absurd cc
one_of P (x ∷ xs) zero r a e = let same : x ≡ r = cc in subst P same a.0
one_of P (x ∷ xs) (suc i) r a e = one_of P xs i r a.1 e

pub run_within : (m : List Page) → IsProperMemory m → (i : ℕ) (r : Run) → slice_get (runs_of m) i ≡ Some r → r.range.first < page_count
run_within m proper i r e = one_of (λ r. r.range.first < page_count) (runs_of m) i r (begin_within m proper.each) e
