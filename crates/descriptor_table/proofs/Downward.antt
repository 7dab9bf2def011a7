-- The free runs of leaves from the highest down.
use Rattle.std.proofs.Common.{◌≡◌, ◌≢◌, ℕ, zero, suc, ◌+◌, ◌-◌, ◌<◌, ◌≤◌, Bool, true, false, cond, eqb, List, [], ◌∷◌, ◌++◌, length, get_or, take, drop, Option, Some, None, inl, inr, refl, sym, ap, subst, ◌∙◌, append_assoc, append-nil, arith}
use Rattle.std.specs.Prelude.{slice_get}
use Rattle.std.specs.List.{AllByRecursion}
use Rattle.std.proofs.lemmas.Bool.{cases_lt, eq-eqb, ne_eqb}
use Rattle.std.proofs.lemmas.List.{take_more, take_all, get_or_past, drop_more}
use Rattle.std.proofs.lemmas.Option.{get_or_from_slice_get, slice_get_within, slice_get_past}
use Rattle.page_ranges.specs.declared.ranges.Descriptor.{Descriptor}
use Rattle.page_ranges.specs.declared.ranges.Run.{Run}
use Rattle.page_ranges.specs.MemoryTypes.{conventional, page_count}
use Rattle.page_ranges.specs.Memory.{Page, page_at, page_below, IsProperMemory}
use Rattle.page_ranges.specs.Cursors.{IsBlockAt}
use Rattle.page_ranges.specs.Runs.{pages_of, AreMaximalRuns}
use Rattle.page_ranges.proofs.MaximalRuns.{maximal_are_runs}
use Rattle.page_ranges.proofs.Members.{all_append}
use Rattle.descriptor_table.specs.declared.wanted.Wanted.{Wanted}
use Rattle.descriptor_table.specs.Leaves.{IsPlace, leaf_at, run_before, runs_in, AreLeaves}
use Rattle.descriptor_table.specs.Summaries.{BeginsFree, IsLeafOfNoUse}
use Rattle.descriptor_table.specs.LeafSummaries.{MarksFree, NoneMarked}
use Rattle.descriptor_table.specs.LeafWalks.{IsAboveRun, IsBelowRun, run_above, run_below}
use Rattle.descriptor_table.specs.Tables.{entry_of, IsBlockBelow}
use Rattle.descriptor_table.specs.Wanting.{AreOfNoUse, IsOfNoUse, entries_of, is_of, most_gain}
use Rattle.descriptor_table.proofs.FreeBounds.{gain_most}
use Rattle.descriptor_table.proofs.FreeMarks.{none_free}
use Rattle.descriptor_table.proofs.LeafLists.{get_dropped, leaf_at as is_leaf}
use Rattle.descriptor_table.proofs.NoUse.{entries-append, in_leaf, leaf_no_use, offset, offset_next, runs_next}
use Rattle.descriptor_table.proofs.Places.{below_is_none, above_is_none, next_ends, passed_ends}
use Rattle.descriptor_table.proofs.TableFacts.{proper_ends}

-- ---- the last free run of some

-- the entries of one run, if it is free, and if it is not
one_entry : (r : Run) → r.mtype ≡ conventional → entries_of (r ∷ []) ≡ entry_of r ∷ []
one_entry r free = rw (eq-eqb r.mtype conventional free) refl

no_entry : (r : Run) → r.mtype ≢ conventional → entries_of (r ∷ []) ≡ []
no_entry r other = rw (ne_eqb r.mtype conventional other) refl

-- one run more is taken
taken : (rs : List Run) (i : ℕ) (r : Run) → i < length rs → r ≡ get_or rs i r → entries_of (take (i + 1) rs) ≡ entries_of (take i rs) ++ entries_of (r ∷ [])
taken rs i r h at = ap entries_of (take_more rs i r h ∙ ap (λ x. take i rs ++ x ∷ []) (sym at)) ∙ entries-append (take i rs) (r ∷ [])

taken_free : (rs : List Run) (i : ℕ) (r : Run) → i < length rs → r ≡ get_or rs i r → r.mtype ≡ conventional → entries_of (take (i + 1) rs) ≡ entries_of (take i rs) ++ entry_of r ∷ []
taken_free rs i r h at free = taken rs i r h at ∙ ap (λ ds. entries_of (take i rs) ++ ds) (one_entry r free)

taken_other : (rs : List Run) (i : ℕ) (r : Run) → i < length rs → r ≡ get_or rs i r → r.mtype ≢ conventional → entries_of (take (i + 1) rs) ≡ entries_of (take i rs)
taken_other rs i r h at other = taken rs i r h at ∙ ap (λ ds. entries_of (take i rs) ++ ds) (no_entry r other) ∙ append-nil (entries_of (take i rs))

-- there is a run at an index
pub some_run : (rs : List Run) (i : ℕ) → i < length rs → (r : Run) × (slice_get rs i ≡ Some r)
some_run [] i h = absurd (omega arith)
some_run (r ∷ rs) zero h = (r, refl)
some_run (r ∷ rs) (suc i) h = some_run rs i (omega arith)

-- no run without a mark is an entry
pub none_marked : (marks : ℕ) (rs : List Run) → MarksFree marks rs → (d i count : ℕ) → i + d ≡ count → count ≤ length rs → NoneMarked marks i count → entries_of (take count rs) ≡ entries_of (take i rs)
none_marked marks rs m zero i count e h none = let same : count ≡ i = omega (arith, e) in ap (λ k. entries_of (take k rs)) same
none_marked marks rs m (suc d) i count e h none =
    let k : i < length rs = omega (arith, e, h) in
    let s = some_run rs i k in
    none_marked marks rs m d (i + 1) count (omega (arith, e)) h (λ j low high. none j (omega (arith, low)) high)
    ∙ taken_other rs i s.0 k (sym (get_or_from_slice_get rs i s.0 s.0 s.1)) (λ free. none_free marks rs i s.0 m s.1 free (none i (omega arith) (omega (arith, e))))

-- the last run before an index whose mark is set, if it is free, and if it is not
module _ (marks : ℕ) (rs : List Run) (m : MarksFree marks rs) (i count : ℕ) (r : Run) (h : i < count) (bound : count ≤ length rs) (at : r ≡ get_or rs i r) (none : NoneMarked marks (i + 1) count) where
  down_to : entries_of (take count rs) ≡ entries_of (take (i + 1) rs)
  down_to = none_marked marks rs m (count - (i + 1)) (i + 1) count (omega (arith, h)) bound none

  pub last_free : r.mtype ≡ conventional → entries_of (take count rs) ≡ entries_of (take i rs) ++ entry_of r ∷ []
  last_free free = down_to ∙ taken_free rs i r (omega (arith, h, bound)) at free

  pub last_other : r.mtype ≢ conventional → entries_of (take count rs) ≡ entries_of (take i rs)
  last_other other = down_to ∙ taken_other rs i r (omega (arith, h, bound)) at other

-- ---- the runs beside one of a leaf

pub below_inside : (ls : List (List Run)) (j i : ℕ) → j < length ls → i < length (leaf_at ls j) → 0 < i → slice_get (leaf_at ls j) (i - 1) ≡ run_before (runs_in ls) (offset ls j + i)
below_inside ls j zero h k some = absurd (omega arith)
below_inside ls j (suc i) h k some =
    let e : offset ls j + suc i ≡ suc (offset ls j + i) = omega arith in
    let one : suc i - 1 ≡ i = omega arith in
    ap (slice_get (leaf_at ls j)) one ∙ sym (in_leaf ls j i h (omega arith)) ∙ sym (ap (run_before (runs_in ls)) e)

pub below_leaf : (ls : List (List Run)) (j i : ℕ) → AreLeaves ls → j ≢ 0 → j < length ls → i ≡ 0 → slice_get (leaf_at ls (j - 1)) (length (leaf_at ls (j - 1)) - 1) ≡ run_before (runs_in ls) (offset ls j + i)
below_leaf ls zero i leaves some h e = absurd (some refl)
below_leaf ls (suc j) i leaves some h e =
    let one : suc j - 1 ≡ j = omega arith in
    let more : j + 1 ≡ suc j = omega arith in
    let l = leaf_at ls j in
    let count = (is_leaf ls j [] leaves (omega arith)).0 in
    let at : offset ls (suc j) + i ≡ suc (offset ls j + (length l - 1)) = omega (arith, e, count, offset_next ls j (omega arith), ap (offset ls) more) in
    ap (λ k. slice_get (leaf_at ls k) (length (leaf_at ls k) - 1)) one ∙ sym (in_leaf ls j (length l - 1) (omega arith) (omega arith)) ∙ sym (ap (run_before (runs_in ls)) at)

pub above_inside : (ls : List (List Run)) (j i : ℕ) → j < length ls → i + 1 < length (leaf_at ls j) → slice_get (leaf_at ls j) (i + 1) ≡ slice_get (runs_in ls) (offset ls j + i + 1)
above_inside ls j i h k = let e : offset ls j + i + 1 ≡ offset ls j + (i + 1) = omega arith in sym (ap (slice_get (runs_in ls)) e ∙ in_leaf ls j (i + 1) h k)

pub above_leaf : (ls : List (List Run)) (j i : ℕ) → AreLeaves ls → j < length ls → i + 1 ≡ length (leaf_at ls j) → slice_get (leaf_at ls (j + 1)) 0 ≡ slice_get (runs_in ls) (offset ls j + i + 1)
above_leaf ls j i leaves h last = elim (cases_lt (j + 1) (length ls)) [
  | inl k ↦
      let e : offset ls j + i + 1 ≡ offset ls (j + 1) + 0 = omega (arith, offset_next ls j h, last) in
      sym (ap (slice_get (runs_in ls)) e ∙ in_leaf ls (j + 1) 0 k (is_leaf ls (j + 1) [] leaves k).0)
  | inr k ↦
      let all : take (j + 1) ls ≡ ls = take_all (j + 1) ls k in
      ap (λ l. slice_get l 0) (get_or_past ls (j + 1) [] k)
      ∙ sym (slice_get_past (runs_in ls) (offset ls j + i + 1) (omega (arith, offset_next ls j h, last, ap (λ xs. length (runs_in xs)) all)))
]

-- ---- the place of a run

pub run_place : (rs : List Run) (g : ℕ) (r : Run) (o : Option Run) → slice_get rs g ≡ Some r → o ≡ run_before rs g → IsPlace rs (record { before = o; rest = r ∷ drop (g + 1) rs })
run_place rs g r o at below =
    let h = slice_get_within rs g r at in
    record { index = g; bound = omega (arith, h); to_come = sym (drop_more rs g r h ∙ ap (λ x. x ∷ drop (g + 1) rs) (get_or_from_slice_get rs g r r at)); passed = below }

pub run_next : (rs : List Run) (g : ℕ) (o : Option Run) → o ≡ slice_get rs (g + 1) → o ≡ slice_get (drop (g + 1) rs) 0
run_next rs g o e = e ∙ sym (get_dropped rs (g + 1) 0 (g + 1) (omega arith))

pub run_here : (ls : List (List Run)) (j i : ℕ) (r : Run) → j < length ls → slice_get (leaf_at ls j) i ≡ Some r → slice_get (runs_in ls) (offset ls j + i) ≡ Some r
run_here ls j i r h at = in_leaf ls j i h (slice_get_within (leaf_at ls j) i r at) ∙ at

-- ---- what lies beside a run of a leaf

module _ (ls : List (List Run)) (maximal : AreMaximalRuns (runs_in ls)) (proper : IsProperMemory (pages_of (runs_in ls))) (j i : ℕ) (r : Run) (h : j < length ls) (at : slice_get (leaf_at ls j) i ≡ Some r) where
  abbrev rest : List Run
  rest = drop (offset ls j + i + 1) (runs_in ls)

  -- the place of the run
  place : (o : Option Run) → o ≡ run_below ls j i → IsPlace (runs_in ls) (record { before = o; rest = r ∷ rest })
  place o e = run_place (runs_in ls) (offset ls j + i) r o (run_here ls j i r h at) e

  -- it ends by the end of all pages, and so does the run below it
  pub run_ends : r.range.first + r.range.pages ≤ page_count
  run_ends = next_ends page_count (runs_in ls) rest r (run_below ls j i) (proper_ends (runs_in ls) (maximal_are_runs (runs_in ls) maximal) proper) (place (run_below ls j i) refl)

  pub below_ends : (q : Run) → Some q ≡ run_below ls j i → q.range.first + q.range.pages ≤ page_count
  below_ends q e = passed_ends page_count (runs_in ls) (record { before = Some q; rest = r ∷ rest }) (proper_ends (runs_in ls) (maximal_are_runs (runs_in ls) maximal) proper) (place (Some q) e)

  -- the block below it
  pub block_below : (o : Option Run) (d : Option Descriptor) → o ≡ run_below ls j i → IsBelowRun o r d → IsBlockBelow (pages_of (runs_in ls)) r.range.first d
  block_below o d e below = below (runs_in ls) rest maximal proper (place o e)

  pub no_block_below : None ≡ run_below ls j i → IsBlockBelow (pages_of (runs_in ls)) r.range.first None
  no_block_below e = below_is_none (runs_in ls) rest r maximal proper (place None e)

  -- the block above it
  pub block_above : (o : Option Run) (d : Option Descriptor) → o ≡ run_above ls j i → IsAboveRun r o d → IsBlockAt (pages_of (runs_in ls)) (r.range.first + r.range.pages) d
  block_above o d e above = above (runs_in ls) rest (run_below ls j i) maximal proper (place (run_below ls j i) refl) (run_next (runs_in ls) (offset ls j + i) o e)

  pub no_block_above : None ≡ run_above ls j i → IsBlockAt (pages_of (runs_in ls)) (r.range.first + r.range.pages) None
  no_block_above e = above_is_none (runs_in ls) rest r (run_below ls j i) maximal proper (place (run_below ls j i) refl) (sym (run_next (runs_in ls) (offset ls j + i) None e))

-- ---- passing leaves

-- no entry is of use where too much is asked
pub too_much : (m : List Page) (w : Wanted) (es : List Descriptor) → 3 < w.gain → AllByRecursion (IsOfNoUse m w) es
too_much m w [] h = tt
too_much m w (e ∷ es) h = (inr (record { within = λ n. omega (arith, h, few e); beyond = λ c. h }), too_much m w es h)
  where
    of_most : (t : ℕ) (o : Option Page) → is_of t o ≤ 1
    of_most t None = omega arith
    of_most t (Some x) = elim (eqb x.mtype t) as (λ c. cond c 1 0 ≤ 1) [ true ↦ omega arith | false ↦ omega arith ]

    few : (d : Descriptor) → most_gain w.pages d.pages (is_of w.mtype (page_below m d.first)) (is_of w.mtype (page_at m (d.first + d.pages))) ≤ 3
    few d = gain_most w.pages d.pages (is_of w.mtype (page_below m d.first)) (is_of w.mtype (page_at m (d.first + d.pages))) (of_most w.mtype (page_below m d.first)) (of_most w.mtype (page_at m (d.first + d.pages)))

-- some entries are passed, all of no use, and those of the leaves before an index are left
pub record HasPassed (w : Wanted) (ls : List (List Run)) (all : List Descriptor) (leaf : ℕ) : Type 0 where
  pub passed : List Descriptor
  pub parts : all ≡ entries_of (runs_in (take leaf ls)) ++ passed
  pub no_use : AllByRecursion (IsOfNoUse (pages_of (runs_in ls)) w) passed

-- at first none is passed
pub none_passed : (w : Wanted) (ls : List (List Run)) (leaf : ℕ) → HasPassed w ls (entries_of (runs_in (take leaf ls))) leaf
none_passed w ls leaf = record { passed = []; parts = sym (append-nil (entries_of (runs_in (take leaf ls)))); no_use = tt }

module _ (w : Wanted) (ls : List (List Run)) (all : List Descriptor) where
  -- the entries of the leaf before an index come right after those of the leaves before it
  pub leaf_opened : (j : ℕ) → j < length ls → (has : HasPassed w ls all (j + 1)) → all ≡ entries_of (runs_in (take j ls)) ++ (entries_of (leaf_at ls j) ++ has.passed)
  leaf_opened j h has =
      has.parts ∙ ap (λ rs. entries_of rs ++ has.passed) (runs_next ls j h) ∙ ap (λ ds. ds ++ has.passed) (entries-append (runs_in (take j ls)) (leaf_at ls j)) ∙ append_assoc (entries_of (runs_in (take j ls))) (entries_of (leaf_at ls j)) has.passed

  -- a leaf of no use is passed
  leaf_passed : (j : ℕ) → j < length ls → HasPassed w ls all (j + 1) → AllByRecursion (IsOfNoUse (pages_of (runs_in ls)) w) (entries_of (leaf_at ls j)) → HasPassed w ls all j
  leaf_passed j h has none = record {
    passed = entries_of (leaf_at ls j) ++ has.passed;
    parts = leaf_opened j h has;
    no_use = all_append (IsOfNoUse (pages_of (runs_in ls)) w) (entries_of (leaf_at ls j)) has.passed none has.no_use;
  }

  -- and so are some leaves of no use
  pub leaves_passed : (d j leaf : ℕ) → j + d ≡ leaf → leaf ≤ length ls → HasPassed w ls all leaf → AreOfNoUse w ls j leaf → HasPassed w ls all j
  leaves_passed zero j leaf e h has none = let same : leaf ≡ j = omega (arith, e) in subst (HasPassed w ls all) same has
  leaves_passed (suc d) j leaf e h has none =
      leaf_passed j (omega (arith, e, h)) (leaves_passed d (j + 1) leaf (omega (arith, e)) h has (λ k low high. none k (omega (arith, low)) high)) (none j (omega arith) (omega (arith, e)))

  -- all leaves are passed
  pub all_passed : HasPassed w ls all 0 → AllByRecursion (IsOfNoUse (pages_of (runs_in ls)) w) all
  all_passed has = subst (AllByRecursion (IsOfNoUse (pages_of (runs_in ls)) w)) (sym has.parts) has.no_use

module _ (w : Wanted) (ls : List (List Run)) (leaves : AreLeaves ls) (maximal : AreMaximalRuns (runs_in ls)) (proper : IsProperMemory (pages_of (runs_in ls))) where
  -- a leaf of no use
  pub one_of_no_use : (j : ℕ) (goes_on : Bool) → j < length ls → BeginsFree goes_on (leaf_at ls (j + 1)) → IsLeafOfNoUse w goes_on (leaf_at ls j) → AllByRecursion (IsOfNoUse (pages_of (runs_in ls)) w) (entries_of (leaf_at ls j))
  one_of_no_use j goes_on h begins none = leaf_no_use ls leaves maximal proper j h w goes_on begins none
