-- How many entries more a map has once the pages of a range have a type.
use Rattle.std.proofs.Common.{◌≡◌, ℕ, suc, ◌+◌, ◌≤◌, Bool, true, false, cond, List, [], ◌∷◌, length, inl, inr, refl, ap, ap₂, arith}
use Rattle.std.proofs.lemmas.Bool.{cases_lt, cases_Bool}
use Rattle.page_ranges.specs.declared.ranges.Descriptor.{Descriptor}
use Rattle.page_ranges.specs.declared.ranges.Owner.{Owner}
use Rattle.page_ranges.specs.declared.ranges.PageRange.{PageRange}
use Rattle.page_ranges.specs.MemoryTypes.{attributes_as}
use Rattle.page_ranges.specs.Memory.{Page, IsAscending, retyped, retyped_page}
use Rattle.page_ranges.specs.MemoryMap.{block_of, goes_on_in, with_page_below, memory_map}
use Rattle.page_ranges.proofs.Blocks.{goes_on_parts, goes_on_from}
use Rattle.page_ranges.proofs.Lookups.{AllFrom, AllFrom-lower}
use Rattle.page_ranges.proofs.Retyped.{changed, changed_in, changed_below, changed_above}

-- the page and the one above it are of one entry
abbrev joins : Page → Page → Bool
joins x y = goes_on_in x (block_of y)

-- how many entries the first adds to those of the second
abbrev added : Page → Page → ℕ
added x y = cond (joins x y) 0 1

one_more : (x y : Page) (bs : List Descriptor) → length (with_page_below x (with_page_below y bs)) ≡ added x y + length (with_page_below y bs)
one_more x y [] = grind arith
one_more x y (b ∷ bs) = grind arith

one_at_most : (c : Bool) → cond c 0 1 ≤ 1
one_at_most true = omega arith
one_at_most false = omega arith

-- pages of one entry still are when both get a type
still_one : (t : ℕ) (o : Owner) (x y : Page) → added (retyped_page t o x) (retyped_page t o y) ≤ added x y
still_one t o x y = elim (cases_Bool (joins x y)) [
  | inl h ↦
      let parts = goes_on_parts x (block_of y) h in
      let after : joins (retyped_page t o x) (retyped_page t o y) ≡ true = goes_on_from (retyped_page t o x) (block_of (retyped_page t o y)) parts.0 refl (ap (attributes_as t) parts.2) in
      rw (after, h) (omega arith)
  | inr h ↦ rw h (one_at_most (joins (retyped_page t o x) (retyped_page t o y)))
]

module _ (range : PageRange) (t : ℕ) (o : Owner) where
  abbrev new : Page → Page
  new = changed range t o

  -- how many entries there are before the change and after it
  abbrev old_count : List Page → ℕ
  old_count m = length (memory_map m)

  abbrev new_count : List Page → ℕ
  new_count m = length (memory_map (retyped range t o m))

  kept_above : (m : List Page) → AllFrom (range.first + range.pages) m → retyped range t o m ≡ m
  kept_above [] a = refl
  kept_above (x ∷ m) a = ap₂ (λ (y : Page) (n : List Page). y ∷ n) (changed_above range t o x a.0) (kept_above m a.1)

  -- from the range on, one more at most
  from_range : (m : List Page) → IsAscending m → AllFrom range.first m → new_count m ≤ old_count m + 1
  from_range [] a from = omega arith
  from_range (x ∷ []) a from = omega arith
  from_range (x ∷ y ∷ m) a from =
      let before = one_more x y (memory_map m) in
      let after = one_more (new x) (new y) (memory_map (retyped range t o m)) in
      elim (cases_lt y.number (range.first + range.pages)) [
        | inl inside ↦
            let x_is = changed_in range t o x from.0 (omega (arith, a.0.0)) in
            let y_is = changed_in range t o y from.1.0 inside in
            let edge = ap₂ added x_is y_is in
            omega (arith, before, after, edge, still_one t o x y, from_range (y ∷ m) a.1 from.1)
        | inr past ↦
            let kept = kept_above (y ∷ m) (past, AllFrom-lower (range.first + range.pages) (suc y.number) m (omega arith) a.1.0) in
            let same = ap old_count kept in
            omega (arith, before, after, same, one_at_most (joins (new x) (new y)))
      ]

  -- The map grows by two entries at most when the pages of a range get a type and an owner.
  pub two_more : (m : List Page) → IsAscending m → new_count m ≤ old_count m + 2
  two_more [] a = omega arith
  two_more (x ∷ []) a = omega arith
  two_more (x ∷ y ∷ m) a =
      let before = one_more x y (memory_map m) in
      let after = one_more (new x) (new y) (memory_map (retyped range t o m)) in
      elim (cases_lt y.number range.first) [
        | inl low ↦
            let x_is = changed_below range t o x (omega (arith, a.0.0)) in
            let y_is = changed_below range t o y low in
            let edge = ap₂ added x_is y_is in
            omega (arith, before, after, edge, two_more (y ∷ m) a.1)
        | inr high ↦
            let rest = from_range (y ∷ m) a.1 (high, AllFrom-lower range.first (suc y.number) m (omega arith) a.1.0) in
            omega (arith, before, after, rest, one_at_most (joins (new x) (new y)))
      ]
