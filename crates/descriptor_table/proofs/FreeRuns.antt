-- Conventional runs: each is an entry of the map.
use Rattle.std.proofs.Common.{◌≡◌, ◌≢◌, ℕ, zero, suc, ◌+◌, ◌-◌, ◌<◌, ◌≤◌, Bool, true, false, ◌&&◌, true≢false, eqb, List, [], ◌∷◌, length, get_or, filter, Option, Some, None, inl, inr, refl, sym, subst, ap, ◌∙◌, arith}
use Rattle.std.specs.List.{AllByRecursion}
use Rattle.std.proofs.lemmas.Bool.{cases_Bool, eq-eqb, ne_eqb, eqb-true, and_parts, and_from}
use Rattle.std.proofs.lemmas.List.{get_or_default}
use Rattle.std.proofs.lemmas.Option.{get_or_from_slice_get, slice_get_within}
use Rattle.std.specs.Prelude.{slice_get}
use Rattle.page_ranges.specs.declared.ranges.Descriptor.{Descriptor}
use Rattle.page_ranges.specs.declared.ranges.Run.{Run}
use Rattle.page_ranges.specs.MemoryTypes.{conventional}
use Rattle.page_ranges.specs.Memory.{Page, page_at, IsProperMemory}
use Rattle.page_ranges.specs.MemoryMap.{memory_map, IsLike}
use Rattle.page_ranges.specs.Cursors.{IsBlock, IsBlockAt}
use Rattle.page_ranges.specs.Runs.{pages_of, is_same_owner, should_be_one_run, AreRuns, AreMaximalRuns}
use Rattle.page_ranges.proofs.MaximalRuns.{maximal_are_runs}
use Rattle.page_ranges.proofs.RunLists.{IsProperRun, proper_runs, ends_before, some_pages_at}
use Rattle.page_ranges.proofs.RunMaps.{runs_join, map_of_last, map_joined, map_apart, first_block}
use Rattle.descriptor_table.specs.Tables.{entry_of, IsBlockBelow}
use Rattle.descriptor_table.proofs.Finding.{held_by, held_by_none, ends_by}
use Rattle.descriptor_table.proofs.Order.{firsts_rise}

abbrev pub is_free : Descriptor → Bool
is_free e = eqb e.mtype conventional

kept : (e : Descriptor) (es : List Descriptor) → e.mtype ≡ conventional → filter is_free (e ∷ es) ≡ e ∷ filter is_free es
kept e es free = rw (eq-eqb e.mtype conventional free) refl

left_out : (e : Descriptor) (es : List Descriptor) → e.mtype ≢ conventional → filter is_free (e ∷ es) ≡ filter is_free es
left_out e es other = rw (ne_eqb e.mtype conventional other) refl

-- two conventional runs that touch and are alike would be one
free_apart : (r s : Run) → IsProperRun r → IsProperRun s → r.mtype ≡ conventional → should_be_one_run r s ≡ false → runs_join r s ≡ false
free_apart r s p q free apart = elim (cases_Bool (runs_join r s)) [
  | inr f ↦ f
  | inl t ↦
      let parts = and_parts (eqb (r.range.first + r.range.pages) s.range.first && eqb r.mtype s.mtype) _ t in
      let both = and_parts (eqb (r.range.first + r.range.pages) s.range.first) (eqb r.mtype s.mtype) parts.0 in
      let other : s.mtype ≡ conventional = sym (eqb-true r.mtype s.mtype both.1) ∙ free in
      let owners : is_same_owner r.owner s.owner ≡ true = rw (p.given free, q.given other) refl in
      absurd (true≢false (sym (and_from _ _ t owners) ∙ apart))
]

-- from a look-up of the page below
below_from : (m : List Page) (k : ℕ) (o : Option Descriptor) → (k ≡ 0 → o ≡ None) → (0 < k → IsBlockAt m (k - 1) o) → IsBlockBelow m k o
below_from m zero o z s = z refl
below_from m (suc k) o z s = let same : suc k - 1 ≡ k = omega arith in subst (λ j. IsBlockAt m j o) same (s (omega arith))

module _ (r : Run) where
  -- a conventional run is the first conventional entry of it and the runs after it
  pub free_run : (rs : List Run) → AreMaximalRuns (r ∷ rs) → AllByRecursion IsProperRun (r ∷ rs) → r.mtype ≡ conventional → filter is_free (memory_map (pages_of (r ∷ rs))) ≡ entry_of r ∷ filter is_free (memory_map (pages_of rs))
  free_run [] a proper free = ap (filter is_free) (map_of_last r a.0) ∙ kept (entry_of r) [] free
  free_run (s ∷ rs) a proper free =
      ap (filter is_free) (map_apart r s rs a.0 a.3.0 (free_apart r s proper.0 proper.1.0 free a.2)) ∙ kept (entry_of r) (memory_map (pages_of (s ∷ rs))) free

  -- any other run adds none
  pub other_run : (rs : List Run) → AreMaximalRuns (r ∷ rs) → r.mtype ≢ conventional → filter is_free (memory_map (pages_of (r ∷ rs))) ≡ filter is_free (memory_map (pages_of rs))
  other_run [] a other = ap (filter is_free) (map_of_last r a.0) ∙ left_out (entry_of r) [] other
  other_run (s ∷ rs) a other = elim (cases_Bool (runs_join r s)) [
    | inl t ↦
        let j = map_joined r s rs a.0 a.3.0 t in
        let parts = and_parts (eqb (r.range.first + r.range.pages) s.range.first && eqb r.mtype s.mtype) _ t in
        let both = and_parts (eqb (r.range.first + r.range.pages) s.range.first) (eqb r.mtype s.mtype) parts.0 in
        let first = rw j.2 at (first_block s rs a.3.0) in
        let alike : j.0.mtype ≡ r.mtype = first.1 ∙ sym (eqb-true r.mtype s.mtype both.1) in
        ap (filter is_free) j.3 ∙ left_out _ j.1 other ∙ sym (ap (filter is_free) j.2 ∙ left_out j.0 j.1 (λ e. other (sym alike ∙ e)))
    | inr f ↦ ap (filter is_free) (map_apart r s rs a.0 a.3.0 f) ∙ left_out (entry_of r) (memory_map (pages_of (s ∷ rs))) other
  ]

module _ (rs : List Run) (maximal : AreMaximalRuns rs) (proper : IsProperMemory (pages_of rs)) where
  runs : AreRuns rs
  runs = maximal_are_runs rs maximal

  each : AllByRecursion IsProperRun rs
  each = proper_runs rs runs proper

  module _ (i : ℕ) (r : Run) (h : i < length rs) (at : r ≡ get_or rs i r) where
    -- the run's pages
    run_block : IsBlock (pages_of rs) (entry_of r)
    run_block k j = subst (IsLike (entry_of r)) (sym (held_by rs i r k runs h at j.low j.high)) (refl, refl)

    -- no page is at a number below the run, where the runs before it end by that number
    none_from : (k : ℕ) → k < r.range.first → ((j : ℕ) (d : Run) → j < i → (get_or rs j d).range.first + (get_or rs j d).range.pages ≤ k) → page_at (pages_of rs) k ≡ None
    none_from k l before = held_by_none rs i k (omega arith) before (λ j d low high. omega (arith, firsts_rise rs runs i j d low high, ap (λ s. s.range.first) at, ap (λ s. s.range.first) (get_or_default rs i d r h)))

    -- the runs up to this one end by its end
    ended : (k : ℕ) → r.range.first + r.range.pages ≤ k → (j : ℕ) (d : Run) → j < i + 1 → (get_or rs j d).range.first + (get_or rs j d).range.pages ≤ k
    ended k l = ends_by rs i r k runs h at l

  -- ---- what lies beside the run at an index

  read : (i : ℕ) (r x : Run) → slice_get rs i ≡ Some x → r ≡ get_or rs i r → r ≡ x
  read i r x e at = at ∙ get_or_from_slice_get rs i x r e

  -- two neighbours
  module _ (i : ℕ) (r s : Run) (h : i + 1 < length rs) (at : r ≡ get_or rs i r) (next : s ≡ get_or rs (i + 1) s) where
    order : r.range.first + r.range.pages ≤ s.range.first
    order = omega (arith, ends_before rs i (i + 1) r s runs (omega arith) h, ap (λ q. q.range.first + q.range.pages) at, ap (λ q. q.range.first) next)

    pub above_touching : (x : Run) → slice_get rs i ≡ Some x → r.range.first + r.range.pages ≡ s.range.first → IsBlockAt (pages_of rs) (x.range.first + x.range.pages) (Some (entry_of s))
    above_touching x e touch =
        let end : r.range.first + r.range.pages ≡ x.range.first + x.range.pages = ap (λ q. q.range.first + q.range.pages) (read i r x e at) in
        let some : 0 < s.range.pages = omega (arith, some_pages_at rs (i + 1) s runs h, ap (λ q. q.range.pages) next) in
        (record { low = omega arith; high = omega arith }, run_block (i + 1) s h next)

    pub above_gap : (x : Run) → slice_get rs i ≡ Some x → r.range.first + r.range.pages ≢ s.range.first → page_at (pages_of rs) (x.range.first + x.range.pages) ≡ None
    above_gap x e gap =
        let end : r.range.first + r.range.pages ≡ x.range.first + x.range.pages = ap (λ q. q.range.first + q.range.pages) (read i r x e at) in
        none_from (i + 1) s h next (x.range.first + x.range.pages) (omega (arith, order)) (ended i r (omega arith) at (x.range.first + x.range.pages) (omega arith))

    pub below_touching : (x : Run) → slice_get rs (i + 1) ≡ Some x → r.range.first + r.range.pages ≡ s.range.first → IsBlockBelow (pages_of rs) x.range.first (Some (entry_of r))
    below_touching x e touch =
        let first : s.range.first ≡ x.range.first = ap (λ q. q.range.first) (read (i + 1) s x e next) in
        let some : 0 < r.range.pages = omega (arith, some_pages_at rs i r runs (omega arith), ap (λ q. q.range.pages) at) in
        below_from (pages_of rs) x.range.first (Some (entry_of r)) (λ z. absurd (omega arith)) (λ up. (record { low = omega arith; high = omega arith }, run_block i r (omega arith) at))

    pub below_gap : (x : Run) → slice_get rs (i + 1) ≡ Some x → r.range.first + r.range.pages ≢ s.range.first → IsBlockBelow (pages_of rs) x.range.first None
    below_gap x e gap =
        let first : s.range.first ≡ x.range.first = ap (λ q. q.range.first) (read (i + 1) s x e next) in
        below_from (pages_of rs) x.range.first None (λ z. refl)
        (λ up. none_from (i + 1) s h next (x.range.first - 1) (omega arith) (ended i r (omega arith) at (x.range.first - 1) (omega (arith, order))))

  -- the last run, and the first
  pub above_last : (i : ℕ) (x : Run) → i + 1 ≡ length rs → slice_get rs i ≡ Some x → page_at (pages_of rs) (x.range.first + x.range.pages) ≡ None
  above_last i x last e =
      held_by_none rs (i + 1) (x.range.first + x.range.pages) (omega arith) (ended i x (omega arith) (sym (get_or_from_slice_get rs i x x e)) (x.range.first + x.range.pages) (omega arith)) (λ j d low high. absurd (omega arith))

  pub below_first : (i : ℕ) (x : Run) → i ≡ 0 → slice_get rs i ≡ Some x → IsBlockBelow (pages_of rs) x.range.first None
  below_first i x first e =
      let h = slice_get_within rs i x e in
      below_from (pages_of rs) x.range.first None (λ z. refl)
      (λ up. none_from i x h (sym (get_or_from_slice_get rs i x x e)) (x.range.first - 1) (omega arith) (λ j d l. absurd (omega arith)))
