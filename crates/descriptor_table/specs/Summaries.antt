-- What the free runs among some runs may be, in a few numbers.
use Rattle.std.specs.Prelude.{◌≡◌, ℕ, ◌+◌, ◌*◌, ◌%◌, ◌⊎◌, ◌<◌, ◌≤◌, ◌^◌, Bool, true, false, ◌&&◌, ◌==◌, nat_le, max, List, length, Option, Some, None, if◌then◌else◌, slice_get, bit_or}
use Rattle.std.specs.Int.{bit_at}
use Rattle.page_ranges.specs.declared.ranges.Run.{Run}
use Rattle.page_ranges.specs.MemoryTypes.{conventional}
use Rattle.descriptor_table.specs.declared.summaries.Summary.{Summary}
use Rattle.descriptor_table.specs.declared.wanted.Wanted.{Wanted}
use Rattle.descriptor_table.specs.Leaves.{first_page, run_before}
use Rattle.descriptor_table.specs.Wanting.{most_gain}

-- the bit of a number
abbrev pub bit_of : ℕ → ℕ → ℕ
bit_of bits n = bit_at bits (n % 64)

-- a number of a length and a type, by which few lengths and types share a bit
abbrev pub pair_of : ℕ → ℕ → ℕ
pair_of n t = n % 64 + 11 * t

-- what a placement of a number of pages of a type gains at most
abbrev pub most_gained : Summary → ℕ → ℕ → ℕ
most_gained s n t =
    if bit_of s.lengths n == 1 then 1 + bit_of s.beside t + bit_of s.between (pair_of n t)
    else bit_of s.beside t

-- any request may be met
abbrev pub AllowsAll : Summary → Type 0
AllowsAll s = (n t : ℕ) → n < 2 ^ 64 → (n ≤ s.longest) × (3 ≤ most_gained s n t)

-- whether a free run may be of use
abbrev pub may_hold : Summary → Wanted → Bool
may_hold s w = nat_le w.pages s.longest && nat_le w.gain (most_gained s w.pages w.mtype)

-- what two allow
abbrev pub joined : Summary → Summary → Summary
joined s u = record {
  longest = max s.longest u.longest;
  lengths = bit_or s.lengths u.lengths;
  beside = bit_or s.beside u.beside;
  between = bit_or s.between u.between;
}

-- 1 where a neighbour is of a type, or is not known
abbrev pub may_be : ℕ → Option Run → ℕ
may_be t None = 1
may_be t (Some r) = if r.mtype == t then 1 else 0

abbrev pub IsFreeRun : Option Run → Type 0
IsFreeRun None = ⊥
IsFreeRun (Some r) = r.mtype ≡ conventional

-- A summary allows a free run between two others: a request with pages in it, and any request if
-- the run above is free too.
pub record AllowsRun (s : Summary) (below : Option Run) (r : Run)
    (above : Option Run) : Type 0 where
  pub within : (n t : ℕ) → n < 2 ^ 64 → n ≤ r.range.pages
      → (n ≤ s.longest)
      × (most_gain n r.range.pages (may_be t below) (may_be t above) ≤ most_gained s n t)
  pub beyond : IsFreeRun above → AllowsAll s

-- it allows each free run of some
abbrev pub Allows : Summary → List Run → Type 0
Allows s rs =
    (i : ℕ) (r : Run) → slice_get rs i ≡ Some r → r.mtype ≡ conventional
    → AllowsRun s (run_before rs i) r (slice_get rs (i + 1))

-- it allows those between two indices
abbrev pub AllowsBetween : Summary → List Run → ℕ → ℕ → Type 0
AllowsBetween s rs low high =
    (i : ℕ) (r : Run) → low ≤ i → i < high → slice_get rs i ≡ Some r → r.mtype ≡ conventional
    → AllowsRun s (run_before rs i) r (slice_get rs (i + 1))

-- a mark that is set if the first run is free, and one that is set if the last is
abbrev pub BeginsFree : Bool → List Run → Type 0
BeginsFree mark rs = IsFreeRun (slice_get rs 0) → mark ≡ true

abbrev pub EndsFree : Bool → List Run → Type 0
EndsFree mark rs = (i : ℕ) → i + 1 ≡ length rs → IsFreeRun (slice_get rs i) → mark ≡ true

-- a free run goes on in the one above, which is free and begins where it ends
abbrev pub GoesOnFree : Run → Option Run → Type 0
GoesOnFree r None = ⊥
GoesOnFree r (Some s) = (s.mtype ≡ conventional) × (r.range.first + r.range.pages ≡ s.range.first)

-- In a free run between two others no placement gains enough; where the one above is not known a
-- free run may go on there.
pub record RunGainsLittle (w : Wanted) (below : Option Run) (r : Run)
    (above : Option Run) : Type 0 where
  pub within : w.pages ≤ r.range.pages
      → most_gain w.pages r.range.pages (may_be w.mtype below) (may_be w.mtype above) < w.gain
  pub beyond : GoesOnFree r above → 3 < w.gain

-- No placement gains enough in the free runs of a leaf between two indices. A free run may go on in
-- the leaf above where a mark is set.
abbrev pub AreRunsOfNoUse : Wanted → Bool → List Run → ℕ → ℕ → Type 0
AreRunsOfNoUse w goes_on l low high =
    (i : ℕ) (r : Run) → low ≤ i → i < high → slice_get l i ≡ Some r → r.mtype ≡ conventional
    → RunGainsLittle w (run_before l i) r (slice_get l (i + 1))
    × (i + 1 ≡ length l → goes_on ≡ false)

-- a leaf begins at the limit or above, or none of its free runs is of use
abbrev pub IsLeafOfNoUse : Wanted → Bool → List Run → Type 0
IsLeafOfNoUse w goes_on l =
    (w.limit ≤ first_page l) ⊎ AreRunsOfNoUse w goes_on l 0 (length l)
