-- Bounds of the free runs among some runs.
use Rattle.std.proofs.Common.{◌≡◌, ◌≢◌, ◌⊎◌, ℕ, ◌+◌, ◌%◌, ◌^◌, ◌<◌, ◌≤◌, max, min, Bool, true, false, cond, true≢false, eqb, leb, List, get_or, Option, Some, None, inl, inr, refl, sym, ap, subst, ◌∙◌, arith}
use Rattle.std.specs.Prelude.{slice_get, bit_or, bit_and}
use Rattle.std.specs.Int.{bit_at}
use Rattle.std.proofs.lemmas.Bool.{cases_Bool, cases_eq, eq-eqb, ne_eqb, leb-false}
use Rattle.std.proofs.lemmas.Option.{get_or_from_slice_get}
use Rattle.std.proofs.lemmas.Nat.Bits.{bit_at_or, bit_at_and, bit_at-lt, bit_at-pow_same, bit_at_ones}
use Rattle.page_ranges.specs.declared.ranges.Run.{Run}
use Rattle.descriptor_table.specs.declared.summaries.Summary.{Summary}
use Rattle.descriptor_table.specs.declared.wanted.Wanted.{Wanted}
use Rattle.descriptor_table.specs.Leaves.{run_before}
use Rattle.descriptor_table.specs.Summaries.{Allows, AllowsAll, AllowsRun, EndsFree, GoesOnFree, IsFreeRun, IsLeafOfNoUse, RunGainsLittle, bit_of, joined, may_be, may_hold, most_gained, pair_of}
use Rattle.descriptor_table.specs.Wanting.{most_gain}

-- ---- bits

pub type_bit : (k t bits : ℕ) → bits ≡ 2 ^ (k % 64) → cond (eqb k t) 1 0 ≤ bit_of bits t
type_bit k t bits e = elim (cases_eq k t) [
  | inl same ↦ let one : bit_of bits t ≡ 1 = ap (λ x. bit_at x (t % 64)) e ∙ ap (λ j. bit_at (2 ^ (k % 64)) (j % 64)) (sym same) ∙ bit_at-pow_same (k % 64) in rw (eq-eqb k t same) (omega (arith, one))
  | inr other ↦ rw (ne_eqb k t other) (omega arith)
]

-- the bit of a length and a run's type
pub pair_bit : (n k t bits : ℕ) → bits ≡ 2 ^ (pair_of n k % 64) → cond (eqb k t) 1 0 ≤ bit_of bits (pair_of n t)
pair_bit n k t bits e = elim (cases_eq k t) [
  | inl same ↦ let one : bit_of bits (pair_of n t) ≡ 1 = ap (λ x. bit_at x (pair_of n t % 64)) e ∙ ap (λ j. bit_at (2 ^ (pair_of n k % 64)) (pair_of n j % 64)) (sym same) ∙ bit_at-pow_same (pair_of n k % 64) in rw (eq-eqb k t same) (omega (arith, one))
  | inr other ↦ rw (ne_eqb k t other) (omega arith)
]

pub all_bits : (t : ℕ) → bit_of 18446744073709551615 t ≡ 1
all_bits t = bit_at_ones 64 (t % 64) (omega arith)

or_low : (a b n : ℕ) → bit_of a n ≤ bit_of (bit_or a b) n
or_low a b n = omega (arith, bit_at_or a b (n % 64))

or_high : (a b n : ℕ) → bit_of b n ≤ bit_of (bit_or a b) n
or_high a b n = omega (arith, bit_at_or a b (n % 64))

-- ---- what may be gained

most_cases : (s : Summary) (n t : ℕ) → ((bit_of s.lengths n ≡ 1) × (most_gained s n t ≡ 1 + bit_of s.beside t + bit_of s.between (pair_of n t))) ⊎ ((bit_of s.lengths n ≢ 1) × (most_gained s n t ≡ bit_of s.beside t))
most_cases s n t = elim (cases_eq (bit_of s.lengths n) 1) [
  | inl e ↦ inl (e, rw (eq-eqb (bit_of s.lengths n) 1 e) refl)
  | inr d ↦ inr (d, rw (ne_eqb (bit_of s.lengths n) 1 d) refl)
]

pub gained_all : (s : Summary) (n t : ℕ) → bit_of s.lengths n ≡ 1 → bit_of s.beside t ≡ 1 → bit_of s.between (pair_of n t) ≡ 1 → most_gained s n t ≡ 3
gained_all s n t a b c = elim (most_cases s n t) [
  | inl e ↦ omega (arith, e.1, b, c)
  | inr d ↦ absurd (d.0 a)
]

gained_more : (s v : Summary) (n t : ℕ) → bit_of s.lengths n ≤ bit_of v.lengths n → bit_of s.beside t ≤ bit_of v.beside t → bit_of s.between (pair_of n t) ≤ bit_of v.between (pair_of n t) → most_gained s n t ≤ most_gained v n t
gained_more s v n t a b c = elim (most_cases s n t) [
  | inl e ↦ elim (most_cases v n t) [
    | inl f ↦ omega (arith, e.1, f.1, b, c)
    | inr f ↦ absurd (f.0 (omega (arith, e.0, a, bit_at-lt v.lengths (n % 64))))
  ]
  | inr e ↦ elim (most_cases v n t) [
    | inl f ↦ omega (arith, e.1, f.1, b)
    | inr f ↦ omega (arith, e.1, f.1, b)
  ]
]

allows_more : (s v : Summary) (below : Option Run) (r : Run) (above : Option Run) → s.longest ≤ v.longest → ((n t : ℕ) → most_gained s n t ≤ most_gained v n t) → AllowsRun s below r above → AllowsRun v below r above
allows_more s v below r above long more a = record {
  within = λ n t k h. let w = a.within n t k h in (omega (arith, w.0), omega (arith, w.1, more n t));
  beyond = λ f n t h. let w = a.beyond f n t h in (omega (arith, w.0), omega (arith, w.1, more n t));
}

pub joined_left : (s u : Summary) (below : Option Run) (r : Run) (above : Option Run) → AllowsRun s below r above → AllowsRun (joined s u) below r above
joined_left s u below r above a =
    allows_more s (joined s u) below r above (omega arith) (λ n t. gained_more s (joined s u) n t (or_low s.lengths u.lengths n) (or_low s.beside u.beside t) (or_low s.between u.between (pair_of n t))) a

pub joined_right : (s u : Summary) (below : Option Run) (r : Run) (above : Option Run) → AllowsRun u below r above → AllowsRun (joined s u) below r above
joined_right s u below r above a =
    allows_more u (joined s u) below r above (omega arith) (λ n t. gained_more u (joined s u) n t (or_high s.lengths u.lengths n) (or_high s.beside u.beside t) (or_high s.between u.between (pair_of n t))) a

-- what two allow is all that the second one allows, if that is all
pub all_joined : (s u : Summary) → AllowsAll u → AllowsAll (joined s u)
all_joined s u a n t h =
    let w = a n t h in (
      omega (arith, w.0),
      omega (arith, w.1, gained_more u (joined s u) n t (or_high s.lengths u.lengths n) (or_high s.beside u.beside t) (or_high s.between u.between (pair_of n t))),
    )

pub may_be_most : (t : ℕ) (o : Option Run) → may_be t o ≤ 1
may_be_most t None = omega arith
may_be_most t (Some r) = elim (eqb r.mtype t) as (λ c. cond c 1 0 ≤ 1) [ true ↦ omega arith | false ↦ omega arith ]

pub gain_most : (n p b a : ℕ) → b ≤ 1 → a ≤ 1 → most_gain n p b a ≤ 3
gain_most n p b a k l = elim (eqb n p) as (λ c. cond c (1 + b + a) (max b a) ≤ 3) [ true ↦ omega (arith, k, l) | false ↦ omega (arith, k, l) ]

-- a summary of all that may be allows any run
pub allows_any : (s : Summary) (below : Option Run) (r : Run) (above : Option Run) → ((n t : ℕ) → n < 2 ^ 64 → (n ≤ s.longest) × (3 ≤ most_gained s n t)) → AllowsRun s below r above
allows_any s below r above all = record {
  within = λ n t k h.
      let a = all n t k in
      (a.0, omega (arith, a.1, gain_most n r.range.pages (may_be t below) (may_be t above) (may_be_most t below) (may_be_most t above)));
  beyond = λ f. all;
}

-- and so any runs
pub all_allows : (s : Summary) (rs : List Run) → AllowsAll s → Allows s rs
all_allows s rs all i r at free = allows_any s (run_before rs i) r (slice_get rs (i + 1)) all

-- a free run, by bits that include those of the runs beside it
module _ (below : Option Run) (r : Run) (above : Option Run) (s : Summary) (low high low_pair high_pair all : ℕ) (is_low : (t : ℕ) → may_be t below ≤ bit_of low t) (is_high : (t : ℕ) → may_be t above ≤ bit_of high t)
    (is_low_pair : (t : ℕ) → may_be t below ≤ bit_of low_pair (pair_of r.range.pages t)) (is_high_pair : (t : ℕ) → may_be t above ≤ bit_of high_pair (pair_of r.range.pages t)) (longest : s.longest ≡ max r.range.pages all)
    (lengths : s.lengths ≡ bit_or (2 ^ (r.range.pages % 64)) all) (beside : s.beside ≡ bit_or (bit_or low high) all) (between : s.between ≡ bit_or (bit_and low_pair high_pair) all) where
  one_bit : (n : ℕ) → n ≡ r.range.pages → bit_of s.lengths n ≡ 1
  one_bit n e =
      let own : bit_of (2 ^ (r.range.pages % 64)) n ≡ 1 = ap (λ j. bit_at (2 ^ (r.range.pages % 64)) (j % 64)) e ∙ bit_at-pow_same (r.range.pages % 64) in
      omega (arith, own, ap (λ x. bit_at x (n % 64)) lengths, bit_at_or (2 ^ (r.range.pages % 64)) all (n % 64), bit_at-lt s.lengths (n % 64))

  either : (t : ℕ) → max (bit_of low t) (bit_of high t) ≤ bit_of s.beside t
  either t = omega (arith, ap (λ x. bit_at x (t % 64)) beside, bit_at_or (bit_or low high) all (t % 64), bit_at_or low high (t % 64))

  both : (k : ℕ) → min (bit_of low_pair k) (bit_of high_pair k) ≤ bit_of s.between k
  both k = omega (arith, ap (λ x. bit_at x (k % 64)) between, bit_at_or (bit_and low_pair high_pair) all (k % 64), bit_at_and low_pair high_pair (k % 64))

  both_here : (n t : ℕ) → n ≡ r.range.pages → min (may_be t below) (may_be t above) ≤ bit_of s.between (pair_of n t)
  both_here n t e = omega (arith, ap (λ k. bit_of s.between (pair_of k t)) e, both (pair_of r.range.pages t), is_low_pair t, is_high_pair t)

  gained_here : (n t : ℕ) → most_gain n r.range.pages (may_be t below) (may_be t above) ≤ most_gained s n t
  gained_here n t = elim (cases_eq n r.range.pages) [
    | inl e ↦ rw (eq-eqb n r.range.pages e) (elim (most_cases s n t) [
      | inl f ↦ omega (arith, f.1, either t, both_here n t e, is_low t, is_high t, may_be_most t below, may_be_most t above)
      | inr f ↦ absurd (f.0 (one_bit n e))
    ])
    | inr d ↦ rw (ne_eqb n r.range.pages d) (elim (most_cases s n t) [
      | inl f ↦ omega (arith, f.1, either t, is_low t, is_high t)
      | inr f ↦ omega (arith, f.1, either t, is_low t, is_high t)
    ])
  ]

  pub allows_here : ¬ IsFreeRun above → AllowsRun s below r above
  allows_here apart = record {
    within = λ n t k h. (omega (arith, longest), gained_here n t);
    beyond = λ f n t h. absurd (apart f);
  }

  all_bit : all ≡ 18446744073709551615 → (x y k : ℕ) → y ≡ bit_or x all → bit_of y k ≡ 1
  all_bit e x y k f = omega (arith, ap (λ z. bit_at z (k % 64)) f, bit_at_or x all (k % 64), ap (λ z. bit_at z (k % 64)) e, all_bits k, bit_at-lt y (k % 64))

  pub all_here : all ≡ 18446744073709551615 → AllowsAll s
  all_here e n t h = (
    omega (arith, longest, e),
    omega (arith, gained_all s n t (all_bit e _ s.lengths n lengths) (all_bit e _ s.beside t beside) (all_bit e _ s.between (pair_of n t) between)),
  )

-- ---- runs by index

pub same_run : (rs : List Run) (i j : ℕ) (q r : Run) → i ≡ j → q ≡ get_or rs j q → slice_get rs i ≡ Some r → q ≡ r
same_run rs i j q r e is at = is ∙ ap (λ k. get_or rs k q) (sym e) ∙ get_or_from_slice_get rs i r q at

pub allows_at : (s : Summary) (rs : List Run) (i j : ℕ) (b a : Option Run) (q r : Run) → i ≡ j → q ≡ get_or rs j q → slice_get rs i ≡ Some r → b ≡ run_before rs j → a ≡ slice_get rs (j + 1) → AllowsRun s b q a → AllowsRun s (run_before rs i) r (slice_get rs (i + 1))
allows_at s rs i j b a q r e is at below above allowed =
    subst (λ x. AllowsRun s x r (slice_get rs (i + 1))) (below ∙ ap (run_before rs) (sym e))
    (subst (λ x. AllowsRun s b r x) (above ∙ ap (λ k. slice_get rs (k + 1)) (sym e)) (subst (λ x. AllowsRun s b x a) (same_run rs i j q r e is at) allowed))

-- ---- a leaf that is of no use

not_held : (s : Summary) (w : Wanted) → may_hold s w ≡ false → (s.longest < w.pages) ⊎ (most_gained s w.pages w.mtype < w.gain)
not_held s w f = elim (cases_Bool (leb w.pages s.longest)) [
  | inl t ↦ inr (leb-false w.gain (most_gained s w.pages w.mtype) (rw t at f))
  | inr g ↦ inl (leb-false w.pages s.longest g)
]

pub goes_on_free : (r : Run) (above : Option Run) → GoesOnFree r above → IsFreeRun above
goes_on_free r None g = absurd g
goes_on_free r (Some s) g = g.0

gains_little : (s : Summary) (w : Wanted) (below : Option Run) (r : Run) (above : Option Run) → may_hold s w ≡ false → w.pages < 2 ^ 64 → AllowsRun s below r above → RunGainsLittle w below r above
gains_little s w below r above f small a = elim (not_held s w f) [
  | inl l ↦ record {
    within = λ h. absurd (omega (arith, l, (a.within w.pages w.mtype small h).0));
    beyond = λ g. absurd (omega (arith, l, (a.beyond (goes_on_free r above g) w.pages w.mtype small).0));
  }
  | inr l ↦ record {
    within = λ h. omega (arith, l, (a.within w.pages w.mtype small h).1);
    beyond = λ g. omega (arith, l, (a.beyond (goes_on_free r above g) w.pages w.mtype small).1);
  }
]

pub leaf_of_no_use : (s : Summary) (w : Wanted) (l : List Run) (goes_on ends : Bool) → may_hold s w ≡ false → w.pages < 2 ^ 64 → Allows s l → EndsFree ends l → (goes_on ≡ true → ends ≡ false) → IsLeafOfNoUse w goes_on l
leaf_of_no_use s w l goes_on ends f small a free apart =
    inr (λ i r low high at is. (
      gains_little s w (run_before l i) r (slice_get l (i + 1)) f small (a i r at is),
      λ last. elim (cases_Bool goes_on) [
        | inl t ↦ absurd (true≢false (sym (free i last (subst IsFreeRun (sym at) is)) ∙ apart t))
        | inr n ↦ n
      ],
    ))
