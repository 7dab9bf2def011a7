-- The price of a permitted start, by its two edges.
use Rattle.std.proofs.Common.{◌≡◌, ℕ, suc, ◌+◌, ◌-◌, ◌<◌, ◌≤◌, Bool, true, false, cond, not, ◌&&◌, eqb, List, [], ◌∷◌, length, sum_by, is_some, Option, Some, None, inl, inr, refl, sym, ap, ap₂, subst, ◌∙◌, arith}
use Rattle.std.specs.Option.{option_map}
use Rattle.std.proofs.lemmas.Bool.{ne_eqb, eq-eqb, cases_eq, cases_order}
use Rattle.std.proofs.lemmas.Bool.Decides.{nat_tests}
use Rattle.std.proofs.lemmas.List.Sums.{sum_by-cons}
use Rattle.page_ranges.specs.declared.ranges.Owner.{Owner}
use Rattle.page_ranges.specs.MemoryTypes.{conventional, has_runtime, attributes_as}
use Rattle.page_ranges.specs.Memory.{Page, page_at, page_below, IsAscending, IsProperPage, IsProperMemory, IsConventional, retyped_page}
use Rattle.page_ranges.specs.MemoryMap.{memory_map}
use Rattle.page_ranges.proofs.Attributes.{same_attributes}
use Rattle.page_ranges.proofs.Lookups.{AllFrom, AllFrom-lower, page_at-hit, page_at-miss, page_below-number, page_at-all, all_found}
use Rattle.page_ranges.proofs.Retyped.{changed, changed-number, changed_in, changed_below, changed_above, page_below-retyped, retyped-ascending}
use Rattle.placement_certificate.specs.declared.certificates.Request.{Request}
use Rattle.placement_certificate.specs.Placement.{IsProperRequest, IsPermittedStart, range_at, after_placement}
use Rattle.placement_certificate.specs.Laws.{are_alike, starts_entry, adds, saves}
use Rattle.placement_certificate.proofs.EntryStarts.{map_length}
use Rattle.placement_certificate.proofs.Sums.{sum_by-map, sum_by-add, sum_by-equal}

-- ---- one edge

abbrev one_unless : Bool → ℕ
one_unless c = cond (not c) 1 0

one_of_two : (c : Bool) → one_unless c + cond c 1 0 ≡ 1
one_of_two true = refl
one_of_two false = refl

old_edge : (b : Option Page) (x : Page) → one_unless (are_alike b (Some x)) + adds b (Some x) ≡ 1
old_edge b x = one_of_two (are_alike b (Some x))

low_edge : (t : ℕ) (o : Owner) (b : Option Page) (x : Page) → one_unless (are_alike b (Some (retyped_page t o x))) + saves t b (Some x) ≡ 1
low_edge t o None x = refl
low_edge t o (Some y) x = one_of_two _

eqb_comm : (a b : ℕ) → eqb a b ≡ eqb b a
eqb_comm a b = grind (arith, nat_tests)

high_edge : (t : ℕ) (o : Owner) (y x : Page) → one_unless (are_alike (Some (retyped_page t o y)) (Some x)) + saves t (Some x) (Some y) ≡ 1
high_edge t o y x = rw (eqb_comm t x.mtype, eqb_comm (attributes_as t y.attributes) x.attributes) (one_of_two _)

-- ---- a term of one number only

abbrev spot : ℕ → ℕ → Page → ℕ
spot k c x = cond (eqb x.number k) c 0

spot-hit : (k c : ℕ) (x : Page) → x.number ≡ k → spot k c x ≡ c
spot-hit k c x e = ap (λ b. cond b c 0) (eq-eqb x.number k e)

spot-miss : (k c : ℕ) (x : Page) → ¬ x.number ≡ k → spot k c x ≡ 0
spot-miss k c x n = ap (λ b. cond b c 0) (ne_eqb x.number k n)

spots_above : (k c : ℕ) (m : List Page) → AllFrom (suc k) m → sum_by (spot k c) m ≡ 0
spots_above k c [] a = refl
spots_above k c (x ∷ m) a = omega (arith, sum_by-cons (spot k c) x m, spot-miss k c x (omega (arith, a.0)), spots_above k c m a.1)

spots : (k c : ℕ) (m : List Page) → IsAscending m → sum_by (spot k c) m ≡ cond (is_some (page_at m k)) c 0
spots k c [] a = refl
spots k c (x ∷ m) a = elim (cases_eq x.number k) [
  | inl e ↦ omega (arith, sum_by-cons (spot k c) x m, spot-hit k c x e, spots_above k c m (AllFrom-lower (suc k) (suc x.number) m (omega arith) a.0), ap (λ v. cond (is_some v) c 0) (page_at-hit x m k e))
  | inr n ↦ omega (arith, sum_by-cons (spot k c) x m, spot-miss k c x n, spots k c m a.1, ap (λ v. cond (is_some v) c 0) (page_at-miss x m k n))
]

saves-inside : (t : ℕ) (o i : Option Page) → cond (is_some i) (saves t o i) 0 ≡ saves t o i
saves-inside t None None = refl
saves-inside t None (Some x) = refl
saves-inside t (Some y) None = refl
saves-inside t (Some y) (Some x) = refl

saves-outside : (t : ℕ) (o i : Option Page) → cond (is_some o) (saves t o i) 0 ≡ saves t o i
saves-outside t None i = refl
saves-outside t (Some y) i = refl

adds-above : (b i : Option Page) → cond (is_some i) (adds b i) 0 ≡ adds b i
adds-above None None = refl
adds-above None (Some x) = refl
adds-above (Some y) None = refl
adds-above (Some y) (Some x) = refl

-- ---- the placement

module _ (m : List Page) (r : Request) (o : Owner) (p : ℕ) (proper : IsProperMemory m) (good : IsProperRequest r) (permitted : IsPermittedStart m r p) where
  abbrev end : ℕ
  end = p + r.pages

  -- a page after the placement
  abbrev new : Page → Page
  new = changed (range_at r p) r.mtype o

  abbrev old_term : Page → ℕ
  old_term x = cond (starts_entry m x) 1 0

  abbrev new_term : Page → ℕ
  new_term x = cond (starts_entry (after_placement m r o p) (new x)) 1 0

  new_term_is : (x : Page) (b : Option Page) → option_map new (page_below m x.number) ≡ b → (y : Page) → new x ≡ y → new_term x ≡ one_unless (are_alike b (Some y))
  new_term_is x b e y f =
      let g = ap (page_below (after_placement m r o p)) (changed-number (range_at r p) r.mtype o x) ∙ page_below-retyped (range_at r p) r.mtype o m x.number ∙ e in
      ap₂ (λ u v. one_unless (are_alike u (Some v))) g f

  -- what lies below a number that is not above the range's first is as before
  low_neighbor : (k : ℕ) → k ≤ p → (b : Option Page) → page_below m k ≡ b → option_map new b ≡ b
  low_neighbor k h None e = refl
  low_neighbor k h (Some y) e = ap Some (changed_below (range_at r p) r.mtype o y (omega (arith, page_below-number m k y e)))

  high_neighbor : (k : ℕ) → end < k → (b : Option Page) → page_below m k ≡ b → option_map new b ≡ b
  high_neighbor k h None e = refl
  high_neighbor k h (Some y) e = ap Some (changed_above (range_at r p) r.mtype o y (omega (arith, page_below-number m k y e)))

  -- the page at the lower edge
  at_start : (x : Page) → x.number ≡ p → page_at m p ≡ Some x → (new_term x + saves r.mtype (page_below m p) (page_at m p) ≡ 1) × (old_term x + adds (page_below m p) (page_at m p) ≡ 1)
  at_start x e here =
      let some = good.some in
      let after = new_term_is x (page_below m p) (ap (λ k. option_map new (page_below m k)) e ∙ low_neighbor p (omega arith) (page_below m p) refl) (retyped_page r.mtype o x)
      (changed_in (range_at r p) r.mtype o x (omega arith) (omega arith)) in
      let before = ap (λ k. one_unless (are_alike (page_below m k) (Some x))) e in
      rw here (omega (arith, after, low_edge r.mtype o (page_below m p) x), omega (arith, before, old_edge (page_below m p) x))

  -- the page just above the range, where one is present
  at_end : (x y : Page) → x.number ≡ end → page_at m end ≡ Some x → page_below m end ≡ Some y →
      (new_term x + saves r.mtype (page_at m end) (page_below m end) ≡ 1) × (old_term x + adds (page_below m end) (page_at m end) ≡ 1)
  at_end x y e here below =
      let some = good.some in
      let is = page_below-number m end y below in
      let top = ap (λ k. option_map new (page_below m k)) e ∙ ap (option_map new) below ∙ ap Some (changed_in (range_at r p) r.mtype o y (omega arith) (omega arith)) in
      let after = new_term_is x (Some (retyped_page r.mtype o y)) top x (changed_above (range_at r p) r.mtype o x (omega arith)) in
      let before = ap (λ k. one_unless (are_alike (page_below m k) (Some x))) e ∙ ap (λ b. one_unless (are_alike b (Some x))) below in
      rw (here, below) (omega (arith, after, high_edge r.mtype o y x), omega (arith, before, old_edge (Some y) x))

  -- a page of the range is conventional, and so lacks RUNTIME
  in_range_page : (k : ℕ) (x : Page) → p ≤ k → k < end → page_at m k ≡ Some x → (x.mtype ≡ conventional) × (has_runtime x.attributes ≡ false)
  in_range_page k x h l e =
      let free : x.mtype ≡ conventional = subst IsConventional e (permitted.conventional k h l) in
      (free, (page_at-all IsProperPage m k x proper.each e).no_runtime free)

  alike_as_before : (y x : Page) → (y.mtype ≡ conventional) × (has_runtime y.attributes ≡ false) → (x.mtype ≡ conventional) × (has_runtime x.attributes ≡ false) →
      are_alike (Some (retyped_page r.mtype o y)) (Some (retyped_page r.mtype o x)) ≡ are_alike (Some y) (Some x)
  alike_as_before y x a b =
      ap₂ (λ u v. u && v) (eq-eqb r.mtype r.mtype refl ∙ sym (eq-eqb y.mtype x.mtype (a.0 ∙ sym b.0))) (same_attributes r.mtype y.attributes x.attributes a.1 b.1)

  -- each number of the range has a page
  absent_below : (k : ℕ) → p < k → k ≤ end → ¬ page_below m k ≡ None
  absent_below k h l e =
      let s : k ≡ suc (k - 1) = omega arith in
      let none : page_at m (k - 1) ≡ None = sym (ap (page_below m) s) ∙ e in
      subst IsConventional none (permitted.conventional (k - 1) (omega arith) (omega arith))

  -- a page of the range above its first
  inside : (x : Page) → p < x.number → x.number < end → page_at m x.number ≡ Some x → (b : Option Page) → page_below m x.number ≡ b → new_term x ≡ old_term x
  inside x h l here None below = absurd (absent_below x.number h (omega arith) below)
  inside x h l here (Some y) below =
      let s : x.number ≡ suc (x.number - 1) = omega arith in
      let found : page_at m (x.number - 1) ≡ Some y = sym (ap (page_below m) s) ∙ below in
      let is = page_below-number m x.number y below in
      let after = new_term_is x (Some (retyped_page r.mtype o y)) (ap (option_map new) below ∙ ap Some (changed_in (range_at r p) r.mtype o y (omega arith) (omega arith))) (retyped_page r.mtype o x)
      (changed_in (range_at r p) r.mtype o x (omega arith) l) in
      let before = ap (λ b. one_unless (are_alike b (Some x))) below in
      after ∙ ap one_unless (alike_as_before y x (in_range_page (x.number - 1) y (omega arith) (omega arith) found) (in_range_page x.number x (omega arith) l here)) ∙ sym before

  below_start : (x : Page) → x.number < p → new_term x ≡ old_term x
  below_start x h = new_term_is x (page_below m x.number) (low_neighbor x.number (omega arith) (page_below m x.number) refl) x (changed_below (range_at r p) r.mtype o x h)

  above_end : (x : Page) → end < x.number → new_term x ≡ old_term x
  above_end x h = new_term_is x (page_below m x.number) (high_neighbor x.number h (page_below m x.number) refl) x (changed_above (range_at r p) r.mtype o x (omega arith))

  last_page : (b : Option Page) → page_below m end ≡ b → (y : Page) × (page_below m end ≡ Some y)
  last_page None e = let some = good.some in absurd (absent_below end (omega arith) (omega arith) e)
  last_page (Some y) e = (y, e)

  abbrev low_saved : ℕ
  low_saved = saves r.mtype (page_below m p) (page_at m p)

  abbrev high_saved : ℕ
  high_saved = saves r.mtype (page_at m end) (page_below m end)

  abbrev low_added : ℕ
  low_added = adds (page_below m p) (page_at m p)

  abbrev high_added : ℕ
  high_added = adds (page_below m end) (page_at m end)

  -- the terms of one page
  at_page : (x : Page) → page_at m x.number ≡ Some x → new_term x + (spot p low_saved x + spot end high_saved x) ≡ old_term x + (spot p low_added x + spot end high_added x)
  at_page x here =
      let some = good.some in
      elim (cases_order x.number p) [
        | inl e ↦
            let t = at_start x e (ap (page_at m) (sym e) ∙ here) in
            omega (arith, t, spot-hit p low_saved x e, spot-hit p low_added x e, spot-miss end high_saved x (omega arith), spot-miss end high_added x (omega arith))
        | inr (inl l) ↦ omega (arith, below_start x l, apart x (omega arith) (omega arith))
        | inr (inr g) ↦ elim (cases_order x.number end) [
          | inl e ↦
              let y = last_page (page_below m end) refl in
              let t = at_end x y.0 e (ap (page_at m) (sym e) ∙ here) y.1 in
              omega (arith, t, spot-hit end high_saved x e, spot-hit end high_added x e, spot-miss p low_saved x (omega arith), spot-miss p low_added x (omega arith))
          | inr (inl l) ↦ omega (arith, inside x g l here (page_below m x.number) refl, apart x (omega arith) (omega arith))
          | inr (inr h) ↦ omega (arith, above_end x h, apart x (omega arith) (omega arith))
        ]
      ]
    where
      apart : (x : Page) → ¬ x.number ≡ p → ¬ x.number ≡ end → (spot p low_saved x ≡ 0) × (spot end high_saved x ≡ 0) × (spot p low_added x ≡ 0) × (spot end high_added x ≡ 0)
      apart x a b = (spot-miss p low_saved x a, spot-miss end high_saved x b, spot-miss p low_added x a, spot-miss end high_added x b)

  two_spots : (a b : ℕ) → sum_by (λ x. spot p a x + spot end b x) m ≡ cond (is_some (page_at m p)) a 0 + cond (is_some (page_at m end)) b 0
  two_spots a b = omega (arith, sum_by-add (spot p a) (spot end b) m, spots p a m proper.ascending, spots end b m proper.ascending)

  -- the terms of all pages
  summed : sum_by new_term m + (low_saved + high_saved) ≡ sum_by old_term m + (low_added + high_added)
  summed = omega (
    arith,
    sum_by-equal (λ x. page_at m x.number ≡ Some x) (λ x. new_term x + (spot p low_saved x + spot end high_saved x)) (λ x. old_term x + (spot p low_added x + spot end high_added x)) at_page m (all_found m proper.ascending),
    sum_by-add new_term (λ x. spot p low_saved x + spot end high_saved x) m,
    two_spots low_saved high_saved,
    sum_by-add old_term (λ x. spot p low_added x + spot end high_added x) m,
    two_spots low_added high_added,
    saves-inside r.mtype (page_below m p) (page_at m p),
    saves-outside r.mtype (page_at m end) (page_below m end),
    adds-above (page_below m p) (page_at m p),
    adds-above (page_below m end) (page_at m end),
  )

  -- whoever then owns the pages
  pub price_is : length (memory_map (after_placement m r o p)) + (low_saved + high_saved) ≡ length (memory_map m) + (low_added + high_added)
  price_is = omega (
    arith,
    map_length (after_placement m r o p) (retyped-ascending (range_at r p) r.mtype o m proper.ascending),
    sum_by-map (λ x. cond (starts_entry (after_placement m r o p) x) 1 0) new m,
    map_length m proper.ascending,
    summed,
  )
