-- Lists that are maps: their entries by index, and the pages that they represent.
use Rattle.std.proofs.Common.{◌≡◌, ℕ, zero, suc, ◌+◌, ◌-◌, ◌<◌, ◌≤◌, List, [], ◌∷◌, length, get_or, drop, Contains, Option, Some, None, inl, inr, refl, sym, ap, subst, ◌∙◌, arith}
use Rattle.std.specs.Prelude.{slice_get}
use Rattle.std.specs.List.{AllByRecursion}
use Rattle.std.specs.List.Sorted.{IsNonDecreasingBy}
use Rattle.std.proofs.lemmas.Bool.{cases_lt}
use Rattle.std.proofs.lemmas.List.{drop_more, get_or_default}
use Rattle.page_ranges.specs.declared.ranges.Descriptor.{Descriptor}
use Rattle.page_ranges.specs.MemoryTypes.{page_count}
use Rattle.page_ranges.specs.Memory.{Page, page_at, page_below}
use Rattle.page_ranges.specs.MemoryMap.{memory_map, IsLike, IsIn, IsEntry, IsMap, memory_of}
use Rattle.page_ranges.proofs.Blocks.{entry_is_block, entry_of_page}
use Rattle.page_ranges.proofs.Lookups.{page_below-page_at}
use Rattle.page_ranges.proofs.Maps.{memory_of-proper, map_of_memory_of}
use Rattle.page_ranges.proofs.Members.{member_all, all_implied}
use Rattle.placement_certificate.specs.Search.{MayStandBelow, IsOnPage}

-- ---- the last entries of a map are a map

pub map_drop : (ds : List Descriptor) (i : ℕ) → IsMap ds → IsMap (drop i ds)
map_drop ds zero a = a
map_drop [] (suc i) a = tt
map_drop (d ∷ ds) (suc i) a = map_drop ds i a.3

pub drop_entry : (ds : List Descriptor) (i : ℕ) (e : Descriptor) → i < length ds → e ≡ get_or ds i e → drop i ds ≡ e ∷ drop (i + 1) ds
drop_entry ds i e h is = drop_more ds i e h ∙ ap (λ d. d ∷ drop (i + 1) ds) (sym is)

slice_get-drop : (ds : List Descriptor) (i : ℕ) → slice_get (drop i ds) 0 ≡ slice_get ds i
slice_get-drop ds zero = refl
slice_get-drop [] (suc i) = refl
slice_get-drop (d ∷ ds) (suc i) = slice_get-drop ds i

-- one entry more below a map
with_entry : (d : Descriptor) (ds : List Descriptor) → IsEntry d → MayStandBelow d (slice_get ds 0) → IsMap ds → IsMap (d ∷ ds)
with_entry d [] is next a = (is, tt, tt, tt)
with_entry d (e ∷ ds) is next a = (is, (next.0, all_implied (λ c. e.first + e.pages ≤ c.first) (λ c. d.first + d.pages ≤ c.first) (λ c l. omega (arith, next.0)) ds a.1), next.1, a)

next_of : (d : Descriptor) (ds : List Descriptor) → IsMap (d ∷ ds) → MayStandBelow d (slice_get ds 0)
next_of d [] a = tt
next_of d (e ∷ ds) a = (a.1.0, a.2)

pub map_from : (ds : List Descriptor) (i : ℕ) (e : Descriptor) → i < length ds → e ≡ get_or ds i e → IsEntry e → MayStandBelow e (slice_get ds (i + 1)) → IsMap (drop (i + 1) ds) → IsMap (drop i ds)
map_from ds i e h is entry next a = subst IsMap (sym (drop_entry ds i e h is)) (with_entry e (drop (i + 1) ds) entry (subst (MayStandBelow e) (sym (slice_get-drop ds (i + 1))) next) a)

pub entry_of_map : (ds : List Descriptor) (i : ℕ) (e : Descriptor) → i < length ds → e ≡ get_or ds i e → IsMap ds → IsEntry e
entry_of_map ds i e h is a = (subst IsMap (drop_entry ds i e h is) (map_drop ds i a)).0

pub next_in_map : (ds : List Descriptor) (i : ℕ) (e : Descriptor) → i < length ds → e ≡ get_or ds i e → IsMap ds → MayStandBelow e (slice_get ds (i + 1))
next_in_map ds i e h is a = subst (MayStandBelow e) (slice_get-drop ds (i + 1)) (next_of e (drop (i + 1) ds) (subst IsMap (drop_entry ds i e h is) (map_drop ds i a)))

-- ---- the entries of a map

begin_at : (n : ℕ) (ds : List Descriptor) (i : ℕ) (d : Descriptor) → AllByRecursion (λ e. n ≤ e.first) ds → i < length ds → n ≤ (get_or ds i d).first
begin_at n [] i d a h = absurd (omega arith)
begin_at n (e ∷ ds) zero d a h = a.0
begin_at n (e ∷ ds) (suc i) d a h = begin_at n ds i d a.1 (omega arith)

-- each entry ends before those after it
pub entries_before : (ds : List Descriptor) (i j : ℕ) (d e : Descriptor) → IsMap ds → i < j → j < length ds → (get_or ds i d).first + (get_or ds i d).pages ≤ (get_or ds j e).first
entries_before [] i j d e a l h = absurd (omega arith)
entries_before (c ∷ ds) i zero d e a l h = absurd (omega arith)
entries_before (c ∷ ds) zero (suc j) d e a l h = begin_at (c.first + c.pages) ds j e a.1 (omega arith)
entries_before (c ∷ ds) (suc i) (suc j) d e a l h = entries_before ds i j d e a.3 (omega arith) (omega arith)

pub firsts_rise : (ds : List Descriptor) → IsMap ds → IsNonDecreasingBy (λ e. e.first) ds
firsts_rise ds a i j d l h = elim (cases_lt i j) [ inl m ↦ omega (arith, entries_before ds i j d d a m h) | inr m ↦ let e : i ≡ j = omega arith in rw e (omega arith) ]

pub ends_rise : (ds : List Descriptor) → IsMap ds → IsNonDecreasingBy (λ e. e.first + e.pages) ds
ends_rise ds a i j d l h = elim (cases_lt i j) [ inl m ↦ omega (arith, entries_before ds i j d d a m h) | inr m ↦ let e : i ≡ j = omega arith in rw e (omega arith) ]

each_entry : (ds : List Descriptor) → IsMap ds → AllByRecursion IsEntry ds
each_entry [] a = tt
each_entry (d ∷ ds) a = (a.0, each_entry ds a.3)

pub member_entry : (ds : List Descriptor) (e : Descriptor) → IsMap ds → Contains ds e → IsEntry e
member_entry ds e a h = member_all IsEntry ds e (each_entry ds a) h

-- there are no more entries than page numbers
entry_count : (ds : List Descriptor) (j : ℕ) → IsMap ds → AllByRecursion (λ e. j ≤ e.first) ds → j ≤ page_count → j + length ds ≤ page_count
entry_count [] j a b h = omega arith
entry_count (d ∷ ds) j a b h = omega (arith, entry_count ds (d.first + d.pages) a.3 a.1 a.0.within, a.0.some, b.0)

pub few_entries : (ds : List Descriptor) → IsMap ds → length ds ≤ page_count
few_entries ds a = omega (arith, entry_count ds 0 a (all_implied IsEntry (λ e. 0 ≤ e.first) (λ e is. omega arith) ds (each_entry ds a)) (omega arith))

-- ---- the pages of a map

-- its entries are those of the memory that it represents
pub in_map : (ds : List Descriptor) (e : Descriptor) → IsMap ds → Contains ds e → Contains (memory_map (memory_of ds)) e
in_map ds e a h = subst (λ es. Contains es e) (sym (map_of_memory_of ds a)) h

pub in_list : (ds : List Descriptor) (e : Descriptor) → IsMap ds → Contains (memory_map (memory_of ds)) e → Contains ds e
in_list ds e a h = subst (λ es. Contains es e) (map_of_memory_of ds a) h

pub entry_like : (ds : List Descriptor) (e : Descriptor) (k : ℕ) → IsMap ds → Contains ds e → IsIn e k → IsLike e (page_at (memory_of ds) k)
entry_like ds e k a h i = (entry_is_block (memory_of ds) (memory_of-proper ds a).ascending e (in_map ds e a h)).all k i

-- a page of no entry is absent
pub no_page : (ds : List Descriptor) (k : ℕ) → IsMap ds → ((e : Descriptor) → Contains ds e → ¬ IsIn e k) → page_at (memory_of ds) k ≡ None
no_page ds k a out = go (page_at (memory_of ds) k) refl
  where
    go : (o : Option Page) → page_at (memory_of ds) k ≡ o → o ≡ None
    go None q = refl
    go (Some x) q = let b = entry_of_page (memory_of ds) k x q in absurd (out b.0 (in_list ds b.0 a b.1) b.2)

-- the entries before an index end at the page or below it, and the others begin above it
pub in_none : (ds : List Descriptor) (i k : ℕ) → ((j : ℕ) (d : Descriptor) → j < i → (get_or ds j d).first + (get_or ds j d).pages ≤ k) → ((j : ℕ) (d : Descriptor) → i ≤ j → j < length ds → k < (get_or ds j d).first) → (e : Descriptor) → Contains ds e → ¬ IsIn e k
in_none ds i k ends begins e h n = elim (cases_lt h.0 i) [
  | inl l ↦ absurd (omega (arith, ends h.0 e l, ap (λ d. d.first + d.pages) h.2, n.high))
  | inr g ↦ absurd (omega (arith, begins h.0 e g h.1, ap (λ d. d.first) h.2, n.low))
]

-- the last entry that begins by the page ends at it or below it
pub ends_by : (ds : List Descriptor) (i : ℕ) (e : Descriptor) (k : ℕ) → IsMap ds → i < length ds → e ≡ get_or ds i e → e.first + e.pages ≤ k → (j : ℕ) (d : Descriptor) → j < i + 1 → (get_or ds j d).first + (get_or ds j d).pages ≤ k
ends_by ds i e k a h is end j d l =
    let same = get_or_default ds i d e h in
    elim (cases_lt j i) [
      | inl m ↦ omega (arith, entries_before ds j i d e a m h, ap (λ c. c.first + c.pages) is)
      | inr m ↦ let n : j ≡ i = omega arith in rw n (omega (arith, ap (λ c. c.first + c.pages) same, ap (λ c. c.first + c.pages) is))
    ]

pub on_page_below : (ds : List Descriptor) (o : Option Descriptor) (k : ℕ) → 0 < k → IsOnPage o (page_at (memory_of ds) (k - 1)) → IsOnPage o (page_below (memory_of ds) k)
on_page_below ds o k h is = subst (IsOnPage o) (sym (page_below-page_at (memory_of ds) k h)) is

pub on_no_page : (ds : List Descriptor) (k : ℕ) → k ≡ 0 → IsOnPage None (page_below (memory_of ds) k)
on_no_page ds k z = subst (λ j. page_below (memory_of ds) j ≡ None) (sym z) refl
