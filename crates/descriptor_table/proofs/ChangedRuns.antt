-- Runs of which some gave way to others: those that keep both runs beside them.
use Rattle.std.proofs.Common.{◌≡◌, ◌⊎◌, ℕ, zero, suc, ◌+◌, ◌-◌, ◌<◌, ◌≤◌, List, [], ◌∷◌, ◌++◌, get_or, length, take, drop, Some, inl, inr, refl, sym, subst, ◌∙◌, arith}
use Rattle.std.specs.Prelude.{slice_get}
use Rattle.std.proofs.lemmas.Bool.{cases_lt}
use Rattle.std.proofs.lemmas.List.{length-take-le}
use Rattle.page_ranges.specs.declared.ranges.Run.{Run}
use Rattle.page_ranges.specs.MemoryTypes.{conventional}
use Rattle.descriptor_table.specs.declared.summaries.Summary.{Summary}
use Rattle.descriptor_table.specs.Leaves.{first_page, run_before}
use Rattle.descriptor_table.specs.LeafSummaries.{AllowsNear}
use Rattle.descriptor_table.specs.Summaries.{Allows, AllowsBetween, AllowsRun, joined}
use Rattle.descriptor_table.proofs.FreeMarks.{get_taken}
use Rattle.descriptor_table.proofs.FreeBounds.{joined_left, joined_right}
use Rattle.descriptor_table.proofs.LeafLists.{get_dropped, get_left, get_right}

-- the first page is that of the first run
pub first_run : (rs : List Run) (r : Run) → 0 < length rs → (get_or rs 0 r).range.first ≡ first_page rs
first_run [] r h = absurd (omega arith)
first_run (q ∷ rs) r h = refl

-- a summary joined with that of runs between two indices and beside these
pub near_joined : (s u : Summary) (rs : List Run) (low high from end : ℕ) → from ≤ low - 1 → (i : ℕ) → AllowsBetween u rs from end → ((i ≤ high) → i < length rs → i < end) → (r : Run) → slice_get rs i ≡ Some r → i < length rs → r.mtype ≡ conventional
    → ((low ≤ i + 1) × (i ≤ high)) ⊎ AllowsRun s (run_before rs i) r (slice_get rs (i + 1)) → AllowsRun (joined s u) (run_before rs i) r (slice_get rs (i + 1))
near_joined s u rs low high from end first i a last r at within free side = elim side [
  | inl near ↦ joined_right s u (run_before rs i) r (slice_get rs (i + 1)) (a i r (omega (arith, near.0, first)) (last near.1 within) at free)
  | inr old ↦ joined_left s u (run_before rs i) r (slice_get rs (i + 1)) old
]

module _ (old parts : List Run) (low high : ℕ) (order : low ≤ high) (bound : high ≤ length old) where
  abbrev pub changed : List Run
  changed = take low old ++ (parts ++ drop high old)

  front : length (take low old) ≡ low
  front = length-take-le low old (omega (arith, order, bound))

  before : (i : ℕ) → i < low → slice_get changed i ≡ slice_get old i
  before i h = get_left (take low old) (parts ++ drop high old) i (omega (arith, h, front)) ∙ get_taken old low i h

  behind : (i j : ℕ) → i + high ≡ low + length parts + j → high ≤ j → slice_get changed i ≡ slice_get old j
  behind i j e h =
      get_right (take low old) (parts ++ drop high old) i (length parts + (j - high)) (omega (arith, e, h, front))
      ∙ get_right parts (drop high old) (length parts + (j - high)) (j - high) refl
      ∙ get_dropped old high (j - high) j (omega (arith, h))

  run_before_before : (i : ℕ) → i ≤ low → run_before changed i ≡ run_before old i
  run_before_before zero h = refl
  run_before_before (suc i) h = before i (omega (arith, h))

  run_before_behind : (i j : ℕ) → i + high ≡ low + length parts + j → high < j → run_before changed i ≡ run_before old j
  run_before_behind zero j e h = absurd (omega (arith, e, h, order))
  run_before_behind (suc i) zero e h = absurd (omega (arith, h))
  run_before_behind (suc i) (suc j) e h = behind i j (omega (arith, e)) (omega (arith, h))

  same_allowed : (s : Summary) (i j : ℕ) (r : Run) → Allows s old → slice_get changed i ≡ slice_get old j → run_before changed i ≡ run_before old j → slice_get changed (i + 1) ≡ slice_get old (j + 1) → slice_get changed i ≡ Some r → r.mtype ≡ conventional
      → AllowsRun s (run_before changed i) r (slice_get changed (i + 1))
  same_allowed s i j r a here below above at free = subst (λ x. AllowsRun s x r (slice_get changed (i + 1))) (sym below) (subst (AllowsRun s (run_before old j) r) (sym above) (a j r (sym here ∙ at) free))

  -- a run that is not near those that came
  pub far_allowed : (s : Summary) (i : ℕ) (r : Run) → Allows s old → (i + 1 < low) ⊎ (low + length parts < i) → slice_get changed i ≡ Some r → r.mtype ≡ conventional → AllowsRun s (run_before changed i) r (slice_get changed (i + 1))
  far_allowed s i r a side at free = elim side [
    | inl l ↦ same_allowed s i i r a (before i (omega (arith, l))) (run_before_before i (omega (arith, l))) (before (i + 1) l) at free
    | inr m ↦
        let j = i + high - (low + length parts) in
        let e : i + high ≡ low + length parts + j = omega (arith, m) in
        let h : high < j = omega (arith, m) in
        same_allowed s i j r a (behind i j e (omega (arith, h))) (run_before_behind i j e h) (behind (i + 1) (j + 1) (omega (arith, e)) (omega (arith, h))) at free
  ]

  -- a summary that allows the runs as they were and those that came
  pub allows_changed : (s u : Summary) → Allows s old → AllowsNear changed low (low + length parts) s u → Allows u changed
  allows_changed s u a near i r at free = near i r at free (elim (cases_lt (i + 1) low) [
    | inl l ↦ inr (far_allowed s i r a (inl l) at free)
    | inr m ↦ elim (cases_lt (low + length parts) i) [
      | inl l ↦ inr (far_allowed s i r a (inr l) at free)
      | inr n ↦ inl (m, n)
    ]
  ])
