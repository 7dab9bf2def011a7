-- Bits that mark the free runs among some runs.
use Rattle.std.proofs.Common.{◌≡◌, ◌≢◌, ℕ, zero, suc, ◌+◌, ◌-◌, ◌*◌, ◌/◌, ◌%◌, ◌^◌, ◌<◌, ◌≤◌, List, [], ◌∷◌, ◌++◌, take, drop, get_or, length, Option, Some, None, inl, inr, refl, sym, ap, subst, ◌∙◌, pow-suc, length-take, arith}
use Rattle.std.specs.Prelude.{slice_get, bit_or, bit_and}
use Rattle.std.specs.Int.{w64, bit_at, leading_zeros, trailing_zeros}
use Rattle.std.proofs.lemmas.Bool.{cases_eq, cases_lt}
use Rattle.std.proofs.lemmas.Option.{slice_get_within}
use Rattle.std.proofs.lemmas.Nat.{pow_pos, shr-shr, shr_le, and_le_r, leading_top}
use Rattle.std.proofs.lemmas.Nat.Bits.{bit_at_or, bit_at_and, bit_at-lt, bit_at-zero, bit_at_above, bit_at_cat_low, bit_at_cat_high, bit_at_set_same, bit_at_set_other, bit_at-trailing_zeros}
use Rattle.page_ranges.specs.declared.ranges.Run.{Run}
use Rattle.page_ranges.specs.MemoryTypes.{conventional}
use Rattle.descriptor_table.specs.Summaries.{IsFreeRun}
use Rattle.descriptor_table.specs.LeafSummaries.{MarksFree, NoneMarked}
use Rattle.descriptor_table.proofs.FreeBounds.{same_run}
use Rattle.descriptor_table.proofs.LeafLists.{get_dropped, get_left, get_right}

-- ---- shifts

-- a bit of a number that is shifted to the left in a word
shifted_bit : (n k i : ℕ) → k ≤ i → i < 64 → bit_at (n * 2 ^ k % 2 ^ 64) i ≡ bit_at n (i - k)
shifted_bit n k i from below =
    let x = n * 2 ^ k in
    let whole : x / 2 ^ 64 * 2 ^ 64 + x % 2 ^ 64 ≡ x + 0 = omega arith in
    sym (bit_at_cat_low (x / 2 ^ 64) 64 (x % 2 ^ 64) i below) ∙ ap (λ y. bit_at y i) whole ∙ bit_at_cat_high n k 0 i (pow_pos k) from

-- ---- the marks of some runs

-- there is a run where a free one is
pub free_run : (o : Option Run) → IsFreeRun o → (r : Run) × (o ≡ Some r) × (r.mtype ≡ conventional)
free_run None f = absurd f
free_run (Some r) f = (r, refl, f)

-- to set the bit at an index keeps the marks below it, and marks the run there
pub mark_set : (rs : List Run) (k marks : ℕ) → k < 64 → ((i : ℕ) → i < k → IsFreeRun (slice_get rs i) → bit_at marks i ≡ 1)
    → (i : ℕ) → i < k + 1 → IsFreeRun (slice_get rs i) → bit_at (bit_or marks (1 * 2 ^ k % 2 ^ 64)) i ≡ 1
mark_set rs k marks small was i below free = elim (cases_eq i k) [
  | inl e ↦ ap (bit_at (bit_or marks (1 * 2 ^ k % 2 ^ 64))) e ∙ bit_at_set_same w64 marks k small
  | inr d ↦ bit_at_set_other w64 marks k small i d ∙ was i (omega (arith, d, below)) free
]

-- a run that is not free needs no mark
pub mark_passed : (rs : List Run) (k marks : ℕ) (q : Run) → q ≡ get_or rs k q → q.mtype ≢ conventional → ((i : ℕ) → i < k → IsFreeRun (slice_get rs i) → bit_at marks i ≡ 1)
    → (i : ℕ) → i < k + 1 → IsFreeRun (slice_get rs i) → bit_at marks i ≡ 1
mark_passed rs k marks q is other was i below free = elim (cases_eq i k) [
  | inl e ↦ let r = free_run (slice_get rs i) free in absurd (other (ap (λ x. x.mtype) (same_run rs i k q r.0 e is r.1) ∙ r.2))
  | inr d ↦ was i (omega (arith, d, below)) free
]

-- ---- marks of runs of which some gave way to others

-- a run among the first ones of a list
pub get_taken : (xs : List Run) (n i : ℕ) → i < n → slice_get (take n xs) i ≡ slice_get xs i
get_taken xs zero i l = absurd (omega arith)
get_taken [] (suc n) i l = refl
get_taken (x ∷ xs) (suc n) zero l = refl
get_taken (x ∷ xs) (suc n) (suc i) l = get_taken xs n i (omega arith)

-- the runs below, the new ones and the runs above are marked by three numbers, of which two are shifted
pub marks_spliced : (marks low high below new : ℕ) (parts rs : List Run) → low ≤ high → high ≤ 32 → low + length parts ≤ 32 → ((i : ℕ) → i < low → bit_at below i ≡ 1) → MarksFree new parts → MarksFree marks rs
    → high ≤ length rs → length rs + length parts ≤ 32 + (high - low)
    → MarksFree (bit_or (bit_or (bit_and marks below) (new * 2 ^ low % 2 ^ 64)) (marks / 2 ^ high * 2 ^ (low + length parts) % 2 ^ 64)) (take low rs ++ (parts ++ drop high rs))
marks_spliced marks low high below new parts rs order bound fits ones own was within few i free =
    let a = bit_and marks below in
    let b = new * 2 ^ low % 2 ^ 64 in
    let d = marks / 2 ^ high * 2 ^ (low + length parts) % 2 ^ 64 in
    let taken : length (take low rs) ≡ low = omega (arith, length-take low rs, order, within) in
    elim (cases_lt i low) [
      | inl l ↦
          let same : slice_get (take low rs ++ (parts ++ drop high rs)) i ≡ slice_get rs i = get_left (take low rs) (parts ++ drop high rs) i (omega (arith, taken, l)) ∙ get_taken rs low i l in
          omega (arith, bit_at_or (bit_or a b) d i, bit_at_or a b i, bit_at_and marks below i, ones i l, was i (subst IsFreeRun same free), bit_at-lt b i, bit_at-lt d i)
      | inr n ↦
          let moved : slice_get (take low rs ++ (parts ++ drop high rs)) i ≡ slice_get (parts ++ drop high rs) (i - low) = get_right (take low rs) (parts ++ drop high rs) i (i - low) (omega (arith, taken, n)) in
          elim (cases_lt (i - low) (length parts)) [
            | inl l ↦
                let same = moved ∙ get_left parts (drop high rs) (i - low) l in
                omega (arith, bit_at_or (bit_or a b) d i, bit_at_or a b i, shifted_bit new low i n (omega (arith, l, fits)), own (i - low) (subst IsFreeRun same free), bit_at-lt a i, bit_at-lt d i)
            | inr m ↦
                let k = i - (low + length parts) in
                let same = moved ∙ get_right parts (drop high rs) (i - low) k (omega (arith, m, n)) ∙ get_dropped rs high k (high + k) refl in
                let f = subst IsFreeRun same free in
                let r = free_run (slice_get rs (high + k)) f in
                let small : i < 64 = omega (arith, slice_get_within rs (high + k) r.0 r.1, few, m, n, order, within) in
                let one : bit_at (marks / 2 ^ high) k ≡ 1 = ap (λ x. x % 2) (shr-shr marks high k) ∙ was (high + k) f in
                omega (arith, bit_at_or (bit_or a b) d i, shifted_bit (marks / 2 ^ high) (low + length parts) i (omega (arith, m, n)) small, one, bit_at-lt (bit_or a b) i)
          ]
    ]

-- ---- the last mark below an index

-- a number has the bit at which it ends
top_bit : (a j : ℕ) → 2 ^ j ≤ a → a < 2 ^ suc j → bit_at a j ≡ 1
top_bit a j from below =
    let twice : 2 ^ suc j ≡ 2 ^ j * 2 = pow-suc 2 j in
    let rest : a ≡ 1 * 2 ^ j + (a - 2 ^ j) = omega (arith, from) in
    let own : j - j ≡ 0 = omega arith in
    ap (λ x. bit_at x j) rest ∙ bit_at_cat_high 1 j (a - 2 ^ j) j (omega (arith, twice, from, below)) (omega arith) ∙ ap (bit_at 1) own

module _ (marks below end : ℕ) (ones : (i : ℕ) → i < end → bit_at below i ≡ 1) where
  -- where a bit of both is none, there is no mark
  unmarked : (j : ℕ) → j < end → bit_at (bit_and marks below) j ≡ 0 → bit_at marks j ≡ 0
  unmarked j l e = omega (arith, e, bit_at_and marks below j, ones j l, bit_at-lt marks j)

  -- no bit left is no mark
  pub no_mark : bit_and marks below ≡ 0 → NoneMarked marks 0 end
  no_mark e j m l = unmarked j l (ap (λ x. bit_at x j) e ∙ bit_at-zero j)

  module _ (above : (i : ℕ) → end ≤ i → bit_at below i ≡ 0) (fits : below < 2 ^ 64) (some : bit_and marks below ≢ 0) where
    -- the place of the highest bit left
    top : (j : ℕ) × (leading_zeros w64 (bit_and marks below) + suc j ≡ 64) × (2 ^ j ≤ bit_and marks below) × (bit_and marks below < 2 ^ suc j)
    top = leading_top 64 (bit_and marks below) (omega (arith, some)) (omega (arith, and_le_r marks below, fits))

    -- the highest bit left is one below the index
    pub last_below : 63 - leading_zeros w64 (bit_and marks below) < end
    last_below = elim (cases_lt top.0 end) [
      | inl l ↦ omega (arith, top.1, l)
      | inr n ↦ absurd (omega (arith, top_bit (bit_and marks below) top.0 top.2 top.3, bit_at_and marks below top.0, above top.0 n))
    ]

    -- and above it is no mark
    pub none_behind : NoneMarked marks (63 - leading_zeros w64 (bit_and marks below) + 1) end
    none_behind j m l = unmarked j l (bit_at_above (bit_and marks below) (suc top.0) j top.3 (omega (arith, top.1, m)))

-- ---- the first mark from an index on

module _ (marks from : ℕ) where
  -- a bit that is left is one of the marks
  left_bit : (j : ℕ) → from ≤ j → bit_at marks j ≡ bit_at (marks / 2 ^ from) (j - from)
  left_bit j low = let k : j ≡ from + (j - from) = omega (arith, low) in ap (bit_at marks) k ∙ sym (ap (λ x. x % 2) (shr-shr marks from (j - from)))

  -- no bit left is no mark
  pub no_mark_from : marks / 2 ^ from ≡ 0 → (j : ℕ) → from ≤ j → bit_at marks j ≡ 0
  no_mark_from none j low = left_bit j low ∙ ap (λ x. bit_at x (j - from)) none ∙ bit_at-zero (j - from)

  -- below the lowest bit left is no mark
  pub none_below : marks < 2 ^ 64 → marks / 2 ^ from ≢ 0 → NoneMarked marks from (from + trailing_zeros w64 (marks / 2 ^ from))
  none_below fits some j low below = left_bit j low ∙ (bit_at-trailing_zeros w64 (marks / 2 ^ from) (omega (arith, some)) (omega (arith, fits, shr_le marks from))).2 (j - from) (omega (arith, low, below))

-- a run that is not marked is not free
pub none_free : (marks : ℕ) (rs : List Run) (i : ℕ) (r : Run) → MarksFree marks rs → slice_get rs i ≡ Some r → r.mtype ≡ conventional → bit_at marks i ≡ 0 → ⊥
none_free marks rs i r m at free none = absurd (omega (arith, m i (subst IsFreeRun (sym at) free), none))
