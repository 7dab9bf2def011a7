-- Free runs of leaves that are of no use.
use Rattle.std.proofs.Common.{◌≡◌, ℕ, zero, suc, ◌+◌, ◌<◌, ◌≤◌, max, Bool, true, false, cond, true≢false, eqb, List, [], ◌∷◌, ◌++◌, map, length, length-append, get_or, take, filter, Option, Some, None, inl, inr, refl, sym, ap, subst, ◌∙◌, arith}
use Rattle.std.specs.Prelude.{slice_get}
use Rattle.std.specs.List.{AllByRecursion}
use Rattle.std.proofs.lemmas.Bool.{cases_Bool, cases_eq, cases_lt, eqb-true, eq-eqb}
use Rattle.std.proofs.lemmas.List.{take_more, take_all, map-append}
use Rattle.std.proofs.lemmas.List.Elements.{filter-append}
use Rattle.std.proofs.lemmas.Option.{get_or_from_slice_get, slice_get_within, slice_get-get_or, slice_get_past}
use Rattle.page_ranges.specs.declared.ranges.Descriptor.{Descriptor}
use Rattle.page_ranges.specs.declared.ranges.Run.{Run}
use Rattle.page_ranges.specs.MemoryTypes.{conventional}
use Rattle.page_ranges.specs.Memory.{Page, page_at, page_below, IsConventional, IsProperMemory}
use Rattle.page_ranges.specs.MemoryMap.{memory_map, IsLike}
use Rattle.page_ranges.specs.Runs.{pages_of, AreMaximalRuns}
use Rattle.page_ranges.proofs.MaximalRuns.{maximal_are_runs}
use Rattle.page_ranges.proofs.RunLists.{IsProperRun, proper_runs}
use Rattle.descriptor_table.specs.declared.wanted.Wanted.{Wanted}
use Rattle.descriptor_table.specs.Leaves.{first_page, leaf_at, run_before, runs_in, AreLeaves}
use Rattle.descriptor_table.specs.Summaries.{BeginsFree, GoesOnFree, IsFreeRun, IsLeafOfNoUse, RunGainsLittle, may_be}
use Rattle.descriptor_table.specs.Tables.{entry_of, IsBlockBelow}
use Rattle.descriptor_table.specs.Wanting.{IsOfNoUse, entries_of, is_of, most_gain}
use Rattle.descriptor_table.proofs.FreeBounds.{goes_on_free, may_be_most}
use Rattle.descriptor_table.proofs.FreeRuns.{above_touching, above_gap, above_last, below_touching, below_gap, below_first, free_run, other_run, is_free}
use Rattle.descriptor_table.proofs.LeafLists.{begin_by_first, leaf_runs, run_of_leaf, runs_in-last, leaf_at as is_leaf}

-- ---- lists

get_all : {X : Type 0} (P : X → Type 0) (xs : List X) (i : ℕ) (x : X) → AllByRecursion P xs → slice_get xs i ≡ Some x → P x
get_all P [] i x a e = absurd cc
get_all P (y ∷ xs) zero x a e = let same : y ≡ x = cc in subst P same a.0
get_all P (y ∷ xs) (suc i) x a e = get_all P xs i x a.1 e

-- what holds of the free runs of some, index by index, holds of their entries
pub all_entries : (P : Descriptor → Type 0) (rs : List Run) → ((i : ℕ) (r : Run) → slice_get rs i ≡ Some r → r.mtype ≡ conventional → P (entry_of r)) → AllByRecursion P (entries_of rs)
all_entries P [] f = tt
all_entries P (r ∷ rs) f = elim (cases_Bool (eqb r.mtype conventional)) [
  | inl t ↦ rw t (f 0 r refl (eqb-true r.mtype conventional t), all_entries P rs (λ i q at free. f (suc i) q at free))
  | inr n ↦ rw n (all_entries P rs (λ i q at free. f (suc i) q at free))
]

pub entries-append : (xs ys : List Run) → entries_of (xs ++ ys) ≡ entries_of xs ++ entries_of ys
entries-append xs ys = ap (map entry_of) (filter-append (λ r. eqb r.mtype conventional) xs ys) ∙ map-append entry_of (filter (λ r. eqb r.mtype conventional) xs) (filter (λ r. eqb r.mtype conventional) ys)

-- the free runs of a table are the conventional entries of its map
entries_here : (rs : List Run) → AreMaximalRuns rs → AllByRecursion IsProperRun rs → entries_of rs ≡ filter is_free (memory_map (pages_of rs))
entries_here [] a p = refl
entries_here (r ∷ rs) a p = elim (cases_Bool (eqb r.mtype conventional)) [
  | inl t ↦ rw t (ap (λ ds. entry_of r ∷ ds) (entries_here rs a.3 p.1) ∙ sym (free_run r rs a p (eqb-true r.mtype conventional t)))
  | inr n ↦ rw n (entries_here rs a.3 p.1 ∙ sym (other_run r rs a (λ e. true≢false (sym (eq-eqb r.mtype conventional e) ∙ n))))
]

pub entries_of_table : (rs : List Run) → AreMaximalRuns rs → IsProperMemory (pages_of rs) → entries_of rs ≡ filter is_free (memory_map (pages_of rs))
entries_of_table rs maximal proper = entries_here rs maximal (proper_runs rs (maximal_are_runs rs maximal) proper)

-- ---- what lies beside a run, by the runs beside it

like_is_of : (o : Option Page) (s : Run) (t : ℕ) → IsLike (entry_of s) o → is_of t o ≤ may_be t (Some s)
like_is_of None s t l = absurd l
like_is_of (Some x) s t l = let same : is_of t (Some x) ≡ may_be t (Some s) = ap (λ k. cond (eqb k t) 1 0) l.0 in omega (arith, same)

pub like_free : (o : Option Page) (s : Run) → IsLike (entry_of s) o → IsConventional o → s.mtype ≡ conventional
like_free None s l c = absurd l
like_free (Some x) s l c = sym l.0 ∙ c

pub free_like : (o : Option Page) (s : Run) → IsLike (entry_of s) o → s.mtype ≡ conventional → IsConventional o
free_like None s l f = absurd l
free_like (Some x) s l f = l.0 ∙ f

none_is_of : (o : Option Page) (t n : ℕ) → o ≡ None → is_of t o ≤ n
none_is_of None t n e = omega arith
none_is_of (Some x) t n e = absurd cc

pub none_free : (o : Option Page) → o ≡ None → ¬ IsConventional o
none_free None e c = c
none_free (Some x) e c = absurd cc

below_of : (m : List Page) (k : ℕ) (q : Run) (t : ℕ) → IsBlockBelow m k (Some (entry_of q)) → is_of t (page_below m k) ≤ may_be t (Some q)
below_of m zero q t e = absurd cc
below_of m (suc k) q t b = like_is_of (page_at m k) q t (b.1 k b.0)

below_none : (m : List Page) (k t n : ℕ) → IsBlockBelow m k None → is_of t (page_below m k) ≤ n
below_none m zero t n e = omega arith
below_none m (suc k) t n e = none_is_of (page_at m k) t n e

module _ (rs : List Run) (maximal : AreMaximalRuns rs) (proper : IsProperMemory (pages_of rs)) where
  abbrev m : List Page
  m = pages_of rs

  read : (g : ℕ) (r : Run) → slice_get rs g ≡ Some r → r ≡ get_or rs g r
  read g r at = sym (get_or_from_slice_get rs g r r at)

  above_case : (g : ℕ) (r : Run) (t : ℕ) (o : Option Run) → slice_get rs g ≡ Some r → slice_get rs (g + 1) ≡ o → (is_of t (page_at m (r.range.first + r.range.pages)) ≤ may_be t o) × (IsConventional (page_at m (r.range.first + r.range.pages)) → GoesOnFree r o)
  above_case g r t None at e =
      let h = slice_get_within rs g r at in
      let last : g + 1 ≡ length rs = elim (cases_lt (g + 1) (length rs)) [ inl l ↦ absurd (let some = sym e ∙ slice_get-get_or rs (g + 1) r l in cc) | inr n ↦ omega (arith, h, n) ] in
      let none = above_last rs maximal proper g r last at in
      (none_is_of _ t 1 none, λ c. absurd (none_free _ none c))
  above_case g r t (Some s) at e = elim (cases_eq (r.range.first + r.range.pages) s.range.first) [
    | inl touch ↦
        let b = above_touching rs maximal proper g r s (slice_get_within rs (g + 1) s e) (read g r at) (read (g + 1) s e) r at touch in
        let like = b.1 (r.range.first + r.range.pages) b.0 in
        (like_is_of _ s t like, λ c. (like_free _ s like c, touch))
    | inr gap ↦
        let none = above_gap rs maximal proper g r s (slice_get_within rs (g + 1) s e) (read g r at) (read (g + 1) s e) r at gap in
        (none_is_of _ t (may_be t (Some s)) none, λ c. absurd (none_free _ none c))
  ]

  below_case : (i : ℕ) (r q : Run) (t : ℕ) → slice_get rs (i + 1) ≡ Some r → slice_get rs i ≡ Some q → is_of t (page_below m r.range.first) ≤ may_be t (Some q)
  below_case i r q t at e = elim (cases_eq (q.range.first + q.range.pages) r.range.first) [
    | inl touch ↦ below_of m r.range.first q t (below_touching rs maximal proper i q r (slice_get_within rs (i + 1) r at) (read i q e) (read (i + 1) r at) r at touch)
    | inr gap ↦ below_none m r.range.first t (may_be t (Some q)) (below_gap rs maximal proper i q r (slice_get_within rs (i + 1) r at) (read i q e) (read (i + 1) r at) r at gap)
  ]

  below_is : (g : ℕ) (r : Run) (t : ℕ) → slice_get rs g ≡ Some r → is_of t (page_below m r.range.first) ≤ may_be t (run_before rs g)
  below_is zero r t at = below_none m r.range.first t 1 (below_first rs maximal proper 0 r refl at)
  below_is (suc i) r t at =
      let k : i + 1 ≡ suc i = omega arith in
      let here : slice_get rs (i + 1) ≡ Some r = ap (slice_get rs) k ∙ at in
      let q = get_or rs i r in
      let e = slice_get-get_or rs i r (omega (arith, slice_get_within rs (suc i) r at)) in
      subst (λ o. is_of t (page_below m r.range.first) ≤ may_be t o) (sym e) (below_case i r q t here e)

-- ---- runs of leaves

gain_grows : (n p b a c d : ℕ) → b ≤ c → a ≤ d → most_gain n p b a ≤ most_gain n p c d
gain_grows n p b a c d k l = elim (eqb n p) as (λ x. cond x (1 + b + a) (max b a) ≤ cond x (1 + c + d) (max c d)) [ true ↦ omega (arith, k, l) | false ↦ omega (arith, k, l) ]

abbrev pub offset : List (List Run) → ℕ → ℕ
offset ls j = length (runs_in (take j ls))

pub in_leaf : (ls : List (List Run)) (j i : ℕ) → j < length ls → i < length (leaf_at ls j) → slice_get (runs_in ls) (offset ls j + i) ≡ slice_get (leaf_at ls j) i
in_leaf ls j i h l = run_of_leaf ls j i [] h l

pub runs_next : (ls : List (List Run)) (j : ℕ) → j < length ls → runs_in (take (j + 1) ls) ≡ runs_in (take j ls) ++ leaf_at ls j
runs_next ls j h = ap runs_in (take_more ls j [] h) ∙ runs_in-last (take j ls) (leaf_at ls j)

pub offset_next : (ls : List (List Run)) (j : ℕ) → j < length ls → offset ls (j + 1) ≡ offset ls j + length (leaf_at ls j)
offset_next ls j h = ap length (runs_next ls j h) ∙ length-append (runs_in (take j ls)) (leaf_at ls j)

module _ (ls : List (List Run)) (leaves : AreLeaves ls) (maximal : AreMaximalRuns (runs_in ls)) (proper : IsProperMemory (pages_of (runs_in ls))) (j : ℕ) (h : j < length ls) where
  abbrev rs : List Run
  rs = runs_in ls

  abbrev l : List Run
  l = leaf_at ls j

  below_in : (i : ℕ) (t : ℕ) → i < length l → may_be t (run_before rs (offset ls j + i)) ≤ may_be t (run_before l i)
  below_in zero t k = may_be_most t (run_before rs (offset ls j + 0))
  below_in (suc i) t k =
      let same : run_before rs (offset ls j + suc i) ≡ slice_get l i = (let e : offset ls j + suc i ≡ suc (offset ls j + i) = omega arith in ap (run_before rs) e ∙ in_leaf ls j i h (omega arith)) in
      omega (arith, ap (may_be t) same)

  above_in : (i : ℕ) → i + 1 < length l → slice_get rs (offset ls j + i + 1) ≡ slice_get l (i + 1)
  above_in i k = let e : offset ls j + i + 1 ≡ offset ls j + (i + 1) = omega arith in ap (slice_get rs) e ∙ in_leaf ls j (i + 1) h k

  above_may_be : (i t : ℕ) → may_be t (slice_get rs (offset ls j + i + 1)) ≤ may_be t (slice_get l (i + 1))
  above_may_be i t = elim (cases_lt (i + 1) (length l)) [
    | inl k ↦ omega (arith, ap (may_be t) (above_in i k))
    | inr k ↦ omega (arith, ap (may_be t) (slice_get_past l (i + 1) k), may_be_most t (slice_get rs (offset ls j + i + 1)))
  ]

  -- the run above the leaf
  next_leaf_free : (i : ℕ) (goes_on : Bool) → BeginsFree goes_on (leaf_at ls (j + 1)) → i + 1 ≡ length l → goes_on ≡ false → ¬ IsFreeRun (slice_get rs (offset ls j + i + 1))
  next_leaf_free i goes_on begins last off free = elim (cases_lt (j + 1) (length ls)) [
    | inl k ↦
        let some = (is_leaf ls (j + 1) [] leaves k).0 in
        let e : offset ls j + i + 1 ≡ offset ls (j + 1) + 0 = omega (arith, offset_next ls j h, last) in
        let same = ap (slice_get rs) e ∙ in_leaf ls (j + 1) 0 k some in
        true≢false (sym (begins (subst IsFreeRun same free)) ∙ off)
    | inr k ↦
        let all : take (j + 1) ls ≡ ls = take_all (j + 1) ls k in
        subst IsFreeRun (slice_get_past rs (offset ls j + i + 1) (omega (arith, offset_next ls j h, last, ap (λ xs. length (runs_in xs)) all))) free
  ]

  -- a run as one of all
  all_run : (i : ℕ) (r : Run) → slice_get l i ≡ Some r → slice_get rs (offset ls j + i) ≡ Some r
  all_run i r at = in_leaf ls j i h (slice_get_within l i r at) ∙ at

  -- a free run that may go on where a run of the leaf ends
  pub goes_on_in : (i : ℕ) (r : Run) → slice_get l i ≡ Some r → i + 1 < length l → IsConventional (page_at (pages_of rs) (r.range.first + r.range.pages)) → GoesOnFree r (slice_get l (i + 1))
  goes_on_in i r at u c = subst (GoesOnFree r) (above_in i u) ((above_case rs maximal proper (offset ls j + i) r 0 (slice_get rs (offset ls j + i + 1)) (all_run i r at) refl).1 c)

  -- none goes on where the last one ends, if the next leaf does not begin with a free run
  pub ends_with_leaf : (i : ℕ) (r : Run) (goes_on : Bool) → slice_get l i ≡ Some r → BeginsFree goes_on (leaf_at ls (j + 1)) → i + 1 ≡ length l → goes_on ≡ false → ¬ IsConventional (page_at (pages_of rs) (r.range.first + r.range.pages))
  ends_with_leaf i r goes_on at begins last off c =
      next_leaf_free i goes_on begins last off (goes_on_free r _ ((above_case rs maximal proper (offset ls j + i) r 0 (slice_get rs (offset ls j + i + 1)) (all_run i r at) refl).1 c))

  run_no_use : (w : Wanted) (goes_on : Bool) → BeginsFree goes_on (leaf_at ls (j + 1)) → (i : ℕ) (r : Run) → slice_get l i ≡ Some r → RunGainsLittle w (run_before l i) r (slice_get l (i + 1)) × (i + 1 ≡ length l → goes_on ≡ false) → IsOfNoUse (pages_of rs) w (entry_of r)
  run_no_use w goes_on begins i r at little =
      let k = slice_get_within l i r at in
      let here = all_run i r at in
      let t = w.mtype in
      let above = above_case rs maximal proper (offset ls j + i) r t (slice_get rs (offset ls j + i + 1)) here refl in
      let low : is_of t (page_below (pages_of rs) r.range.first) ≤ may_be t (run_before l i) = omega (arith, below_is rs maximal proper (offset ls j + i) r t here, below_in i t k) in
      let high : is_of t (page_at (pages_of rs) (r.range.first + r.range.pages)) ≤ may_be t (slice_get l (i + 1)) = omega (arith, above.0, above_may_be i t) in
      inr (record {
        within = λ n. omega (arith, little.0.within n, gain_grows w.pages r.range.pages _ _ _ _ low high);
        beyond = λ c. elim (cases_lt (i + 1) (length l)) [
          | inl u ↦ little.0.beyond (goes_on_in i r at u c)
          | inr u ↦ let last : i + 1 ≡ length l = omega (arith, k, u) in absurd (ends_with_leaf i r goes_on at begins last (little.1 last) c)
        ];
      })

  pub leaf_no_use : (w : Wanted) (goes_on : Bool) → BeginsFree goes_on (leaf_at ls (j + 1)) → IsLeafOfNoUse w goes_on l → AllByRecursion (IsOfNoUse (pages_of rs) w) (entries_of l)
  leaf_no_use w goes_on begins none = all_entries (IsOfNoUse (pages_of rs) w) l (λ i r at free. elim none [
    | inl limit ↦ inl (omega (arith, limit, get_all (λ s. first_page l ≤ s.range.first) l i r (begin_by_first l (leaf_runs ls j [] (maximal_are_runs rs maximal) h)) at))
    | inr f ↦ run_no_use w goes_on begins i r at (f i r (omega arith) (slice_get_within l i r at) at free)
  ])
