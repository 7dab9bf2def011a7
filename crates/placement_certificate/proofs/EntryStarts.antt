-- The length of a map, by the pages that start an entry.
use Rattle.std.proofs.Common.{◌≡◌, ℕ, suc, ◌+◌, ◌<◌, Bool, true, false, cond, not, ◌&&◌, eqb, List, [], ◌∷◌, length, count_by, Some, inl, inr, refl, sym, ap, ◌∙◌, arith}
use Rattle.std.proofs.lemmas.Bool.{ne_eqb, eq-eqb, cases_eq}
use Rattle.std.proofs.lemmas.List.Sums.{sum_by-cons}
use Rattle.page_ranges.specs.declared.ranges.Descriptor.{Descriptor}
use Rattle.page_ranges.specs.Memory.{Page, IsAscending}
use Rattle.page_ranges.specs.MemoryMap.{with_page_below, memory_map}
use Rattle.page_ranges.proofs.Lookups.{AllFrom, AllFrom-lower, page_below-hit, page_below-miss, page_below-absent}
use Rattle.placement_certificate.specs.Laws.{are_alike, starts_entry}

-- the second page lies just above the first, and is like it
abbrev joins_above : Page → Page → Bool
joins_above x y = eqb (x.number + 1) y.number && are_alike (Some x) (Some y)

length-one_more : (x y : Page) (bs : List Descriptor) → length (with_page_below x (with_page_below y bs)) ≡ cond (joins_above x y) 0 1 + length (with_page_below y bs)
length-one_more x y [] = grind arith
length-one_more x y (b ∷ bs) = grind arith

-- a page far below changes nothing
starts_entry-far : (x y : Page) (m : List Page) → x.number + 1 < y.number → starts_entry (x ∷ m) y ≡ starts_entry m y
starts_entry-far x y m h = ap (λ o. not (are_alike o (Some y))) (page_below-miss x m y.number (omega arith))

count-far : (x : Page) (m zs : List Page) → AllFrom (suc (suc x.number)) zs → count_by (starts_entry (x ∷ m)) zs ≡ count_by (starts_entry m) zs
count-far x m [] a = refl
count-far x m (z ∷ zs) a =
    let here = starts_entry-far x z m (omega (arith, a.0)) in
    let rest = count-far x m zs a.1 in
    rw (sum_by-cons (λ y. cond (starts_entry (x ∷ m) y) 1 0) z zs, sum_by-cons (λ y. cond (starts_entry m y) 1 0) z zs, here, rest)

none_below : (x : Page) (m : List Page) → AllFrom (suc x.number) m → AllFrom x.number (x ∷ m)
none_below x m a = (omega arith, AllFrom-lower x.number (suc x.number) m (omega arith) a)

-- the lowest page starts an entry
starts_entry-lowest : (x : Page) (m : List Page) → AllFrom (suc x.number) m → starts_entry (x ∷ m) x ≡ true
starts_entry-lowest x m a = ap (λ o. not (are_alike o (Some x))) (page_below-absent (x ∷ m) x.number (none_below x m a))

-- the next page does, if it does not join
starts_entry-next : (x y : Page) (m : List Page) → x.number < y.number → AllFrom (suc y.number) m → starts_entry (x ∷ y ∷ m) y ≡ not (joins_above x y)
starts_entry-next x y m h a = elim (cases_eq (x.number + 1) y.number) [
  | inl e ↦ ap (λ o. not (are_alike o (Some y))) (page_below-hit x (y ∷ m) y.number e) ∙ ap (λ b. not (b && are_alike (Some x) (Some y))) (sym (eq-eqb (x.number + 1) y.number e))
  | inr n ↦
      ap (λ o. not (are_alike o (Some y))) (page_below-miss x (y ∷ m) y.number n ∙ page_below-absent (y ∷ m) y.number (none_below y m a))
      ∙ ap (λ b. not (b && are_alike (Some x) (Some y))) (sym (ne_eqb (x.number + 1) y.number n))
]

moved_one : (b : Bool) (n : ℕ) → 1 + (cond (not b) 1 0 + n) ≡ cond b 0 1 + (1 + n)
moved_one true n = omega arith
moved_one false n = omega arith

count-one_more : (x y : Page) (m : List Page) → IsAscending (x ∷ y ∷ m) → count_by (starts_entry (x ∷ y ∷ m)) (x ∷ y ∷ m) ≡ cond (joins_above x y) 0 1 + count_by (starts_entry (y ∷ m)) (y ∷ m)
count-one_more x y m a =
    let far : AllFrom (suc (suc x.number)) m = AllFrom-lower (suc (suc x.number)) (suc y.number) m (omega (arith, a.0.0)) a.1.0 in
    let lowest = starts_entry-lowest x (y ∷ m) a.0 in
    let next = starts_entry-next x y m a.0.0 a.1.0 in
    let alone = starts_entry-lowest y m a.1.0 in
    let rest = count-far x (y ∷ m) m far in
    rw (sum_by-cons (λ z. cond (starts_entry (x ∷ y ∷ m) z) 1 0) x (y ∷ m), sum_by-cons (λ z. cond (starts_entry (x ∷ y ∷ m) z) 1 0) y m, sum_by-cons (λ z. cond (starts_entry (y ∷ m) z) 1 0) y m, lowest, next, alone, rest)
    (moved_one (joins_above x y) _)

pub map_length : (m : List Page) → IsAscending m → length (memory_map m) ≡ count_by (starts_entry m) m
map_length [] a = refl
map_length (x ∷ []) a = ap (λ b. 0 + cond b 1 0) (sym (starts_entry-lowest x [] tt))
map_length (x ∷ y ∷ m) a = length-one_more x y (memory_map m) ∙ ap (λ n. cond (joins_above x y) 0 1 + n) (map_length (y ∷ m) a.1) ∙ sym (count-one_more x y m a)
