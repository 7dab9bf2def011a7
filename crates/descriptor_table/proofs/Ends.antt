-- The first and the last run of runs that a range has retyped.
use Rattle.std.proofs.Common.{◌≡◌, ℕ, zero, suc, ◌+◌, ◌-◌, ◌<◌, ◌≤◌, eqb, ◌&&◌, List, [], ◌∷◌, ◌++◌, Option, Some, None, inl, inr, refl, sym, ap, ap₂, ◌∙◌, arith}
use Rattle.std.specs.Option.{option_map}
use Rattle.std.proofs.lemmas.Bool.{cases_lt, cases_order, ne_eqb, and_left}
use Rattle.page_ranges.specs.declared.ranges.Owner.{Owner}
use Rattle.page_ranges.specs.declared.ranges.PageRange.{PageRange}
use Rattle.page_ranges.specs.declared.ranges.Run.{Run}
use Rattle.page_ranges.specs.Memory.{Page, page_at, row, retyped}
use Rattle.page_ranges.specs.Runs.{page_in, pages_of, is_same_owner, should_be_one_run, AreRuns}
use Rattle.page_ranges.proofs.Retyped.{changed, changed-number, changed_below, changed_above, page_at-retyped}
use Rattle.page_ranges.proofs.RunLists.{page_at-held, page_at-not_held, EndBy-higher}
use Rattle.page_ranges.proofs.RunMaps.{runs_join}
use Rattle.descriptor_table.specs.Tables.{EndBy}
use Rattle.descriptor_table.proofs.Meetings.{last_run}

-- ---- the last page

pub last_end : (x : Run) (xs : List Run) → AreRuns (x ∷ xs) → EndBy ((last_run x xs).range.first + (last_run x xs).range.pages) (x ∷ xs)
last_end x [] a = (omega arith, tt)
last_end x (y ∷ xs) a = let rest = last_end y xs a.2 in (omega (arith, a.1.0, rest.0), rest)

last_some : (x : Run) (xs : List Run) → AreRuns (x ∷ xs) → 0 < (last_run x xs).range.pages
last_some x [] a = a.0
last_some x (y ∷ xs) a = last_some y xs a.2

first_of_last : (x : Run) (xs : List Run) → AreRuns (x ∷ xs) → x.range.first ≤ (last_run x xs).range.first
first_of_last x [] a = omega arith
first_of_last x (y ∷ xs) a = omega (arith, a.1.0, first_of_last y xs a.2)

-- a page past all runs is absent
pub page_at-past_all : (rs : List Run) (k : ℕ) → EndBy k rs → page_at (pages_of rs) k ≡ None
page_at-past_all [] k e = refl
page_at-past_all (r ∷ rs) k e = page_at-not_held r rs k (λ _. e.0) ∙ page_at-past_all rs k e.1

page_at-last : (x : Run) (xs : List Run) (k : ℕ) → AreRuns (x ∷ xs) → k + 1 ≡ (last_run x xs).range.first + (last_run x xs).range.pages → page_at (pages_of (x ∷ xs)) k ≡ Some (page_in k (last_run x xs))
page_at-last x [] k a e = page_at-held x [] k (record { low = omega (arith, a.0); high = omega arith })
page_at-last x (y ∷ xs) k a e = page_at-not_held x (y ∷ xs) k (λ _. omega (arith, a.1.0, first_of_last y xs a.2, last_some y xs a.2)) ∙ page_at-last y xs k a.2 e

row_first : (n : ℕ) (x : Page) (m : List Page) → 0 < n → row n x ++ m ≡ x ∷ (row (n - 1) (record x { number = x.number + 1 }) ++ m)
unfolding row
row_first zero x m h = absurd (omega arith)
row_first (suc n) x m h = ap (λ k. x ∷ (row k (record x { number = x.number + 1 }) ++ m)) (let e : n ≡ suc n - 1 = omega arith in e)

module _ (range : PageRange) (t : ℕ) (o : Owner) (x y : Run) (xs ys : List Run) (a : AreRuns (x ∷ xs)) (b : AreRuns (y ∷ ys)) (pages : pages_of (y ∷ ys) ≡ retyped range t o (pages_of (x ∷ xs))) where
  first_page : page_in y.range.first y ≡ changed range t o (page_in x.range.first x)
  first_page =
      let one = row_first y.range.pages (page_in y.range.first y) (pages_of ys) b.0 in
      let two = ap (retyped range t o) (row_first x.range.pages (page_in x.range.first x) (pages_of xs) a.0) in
      let all = sym one ∙ pages ∙ two in
      cc

  pub same_first : y.range.first ≡ x.range.first
  same_first = ap (λ (p : Page). p.number) first_page ∙ changed-number range t o (page_in x.range.first x)

  abbrev last_x : ℕ
  last_x = (last_run x xs).range.first + (last_run x xs).range.pages

  abbrev last_y : ℕ
  last_y = (last_run y ys).range.first + (last_run y ys).range.pages

  at : (k : ℕ) → page_at (pages_of (y ∷ ys)) k ≡ option_map (changed range t o) (page_at (pages_of (x ∷ xs)) k)
  at k = ap (λ m. page_at m k) pages ∙ page_at-retyped range t o (pages_of (x ∷ xs)) k

  none_some : (z : Page) → (let n : Option Page = None in n) ≡ Some z → ⊥
  none_some z e = cc

  pub same_last : last_y ≡ last_x
  same_last = elim (cases_order last_y last_x) [
    | inl e ↦ e
    | inr u ↦ elim u [
      | inl l ↦
          let k = last_x - 1 in
          let some = page_at-last x xs k a (omega (arith, last_some x xs a)) in
          let none = page_at-past_all (y ∷ ys) k (EndBy-higher last_y k (y ∷ ys) (omega arith) (last_end y ys b)) in
          absurd (none_some _ (sym none ∙ at k ∙ ap (option_map (changed range t o)) some))
      | inr l ↦
          let k = last_y - 1 in
          let some = page_at-last y ys k b (omega (arith, last_some y ys b)) in
          let none = page_at-past_all (x ∷ xs) k (EndBy-higher last_x k (x ∷ xs) (omega arith) (last_end x xs a)) in
          absurd (none_some _ (sym (sym some ∙ at k ∙ ap (option_map (changed range t o)) none)))
    ]
  ]

  -- the last page is as it was where the range ends below it
  last_page : range.first + range.pages < last_x → page_in (last_x - 1) (last_run y ys) ≡ page_in (last_x - 1) (last_run x xs)
  last_page l =
      let k = last_x - 1 in
      let some_x = page_at-last x xs k a (omega (arith, last_some x xs a)) in
      let some_y = page_at-last y ys k b (omega (arith, last_some x xs a, same_last)) in
      let same = sym some_y ∙ at k ∙ ap (option_map (changed range t o)) some_x in
      let left = changed_above range t o (page_in k (last_run x xs)) (omega arith) in
      cc

  -- ---- a run that ends below the range goes on in the first run as it did

  pub joins_first : (r : Run) → r.range.first + r.range.pages < range.first → runs_join r y ≡ runs_join r x
  joins_first r h = elim (cases_lt x.range.first range.first) [
    | inl l ↦
        let same = first_page ∙ changed_below range t o (page_in x.range.first x) l in
        ap (λ (p : Page). (eqb (r.range.first + r.range.pages) p.number && eqb r.mtype p.mtype) && eqb r.attributes p.attributes) same
    | inr m ↦
        let far : r.range.first + r.range.pages ≡ y.range.first → ⊥ = λ e. omega (arith, same_first) in
        let far' : r.range.first + r.range.pages ≡ x.range.first → ⊥ = λ e. omega arith in
        and_left _ _ (and_left _ _ (ne_eqb _ _ far)) ∙ sym (and_left _ _ (and_left _ _ (ne_eqb _ _ far')))
  ]

  pub one_with_first : (r : Run) → r.range.first + r.range.pages < range.first → should_be_one_run r y ≡ should_be_one_run r x
  one_with_first r h = elim (cases_lt x.range.first range.first) [
    | inl l ↦
        let same = first_page ∙ changed_below range t o (page_in x.range.first x) l in
        ap (λ (p : Page). ((eqb (r.range.first + r.range.pages) p.number && eqb r.mtype p.mtype) && eqb r.attributes p.attributes) && is_same_owner r.owner p.owner) same
    | inr m ↦
        let far : r.range.first + r.range.pages ≡ y.range.first → ⊥ = λ e. omega (arith, same_first) in
        let far' : r.range.first + r.range.pages ≡ x.range.first → ⊥ = λ e. omega arith in
        and_left _ _ (and_left _ _ (and_left _ _ (ne_eqb _ _ far))) ∙ sym (and_left _ _ (and_left _ _ (and_left _ _ (ne_eqb _ _ far'))))
  ]

  -- ---- the last run goes on in a run that begins above the range as it did

  pub last_joins : (s : Run) → range.first + range.pages < s.range.first → runs_join (last_run y ys) s ≡ runs_join (last_run x xs) s
  last_joins s h = elim (cases_lt (range.first + range.pages) last_x) [
    | inl l ↦
        ap₂ (λ (end : ℕ) (p : Page). (eqb end s.range.first && eqb p.mtype s.mtype) && eqb p.attributes s.attributes) same_last (last_page l)
    | inr m ↦
        let far : last_y ≡ s.range.first → ⊥ = λ e. omega (arith, same_last) in
        let far' : last_x ≡ s.range.first → ⊥ = λ e. omega arith in
        and_left _ _ (and_left _ _ (ne_eqb _ _ far)) ∙ sym (and_left _ _ (and_left _ _ (ne_eqb _ _ far')))
  ]

  pub last_one_with : (s : Run) → range.first + range.pages < s.range.first → should_be_one_run (last_run y ys) s ≡ should_be_one_run (last_run x xs) s
  last_one_with s h = elim (cases_lt (range.first + range.pages) last_x) [
    | inl l ↦
        ap₂ (λ (end : ℕ) (p : Page). ((eqb end s.range.first && eqb p.mtype s.mtype) && eqb p.attributes s.attributes) && is_same_owner p.owner s.owner) same_last (last_page l)
    | inr m ↦
        let far : last_y ≡ s.range.first → ⊥ = λ e. omega (arith, same_last) in
        let far' : last_x ≡ s.range.first → ⊥ = λ e. omega arith in
        and_left _ _ (and_left _ _ (and_left _ _ (ne_eqb _ _ far))) ∙ sym (and_left _ _ (and_left _ _ (and_left _ _ (ne_eqb _ _ far'))))
  ]
