-- Granules that AllocatePages placed stay whole, and what is freed of them.
use Rattle.std.proofs.Common.{◌≡◌, ◌⊎◌, ℕ, ◌+◌, ◌-◌, ◌*◌, ◌/◌, ◌%◌, ◌^◌, ◌<◌, ◌≤◌, ◌==◌, Bool, true, false, cond, true≢false, List, Option, Some, None, Result, Ok, Err, refl, sym, ap, subst, ◌∙◌, inl, inr, arith}
use Rattle.std.specs.List.{AllByRecursion}
use Rattle.std.specs.Option.{option_map, option_and_then, unwrap_or}
use Rattle.std.specs.Result.{MatchResult}
use Rattle.std.proofs.lemmas.Bool.{cases_Bool, cases_lt, cond-true, cond-false, eq-eqb, cases_eq, ne_eqb}
use Rattle.std.proofs.lemmas.Option.{same_Some}
use Rattle.page_ranges.specs.declared.ranges.Owner.{Owner}
use Rattle.page_ranges.specs.declared.ranges.Owner.TheVariants.{Given, Pages, Pool}
use Rattle.page_ranges.specs.declared.ranges.PageRange.{PageRange}
use Rattle.page_ranges.specs.declared.statuses.Status.{Status}
use Rattle.page_ranges.specs.declared.statuses.Status.TheVariants.{OutOfResources}
use Rattle.page_ranges.specs.declared.statuses.Status.TheVariants as status
use Rattle.page_ranges.specs.MemoryTypes.{page_size, page_count, pages_below, conventional, is_bad_type}
use Rattle.page_ranges.specs.Granules.{IsGranule, is_granular, granule_for, rounded, if_64_bits}
use Rattle.page_ranges.specs.Memory.{Page, page_at, page_below, IsProperPage, IsProperMemory, IsPresent, IsConventional, IsOwnedBy, AllInRange, retyped_page, retyped}
use Rattle.page_ranges.proofs.Lookups.{page_at-number, page_at-all, page_below-page_at}
use Rattle.page_ranges.proofs.Retyped.{changed, changed_in, changed_below, changed_above, page_at-retyped}
use Rattle.page_ranges.proofs.WholeGranules.{for_granules, mod_one, rounded_one, rounded_at_least, rounded_fills, rounded_near, rounded_least, rounded_some, granule_for_granular, granule_for_other, granule_for_granule, granule_for_one, granule_for_twice, if_64_bits_some, if_64_bits_none}
use Rattle.placement_certificate.specs.declared.certificates.Request.{Request}
use Rattle.placement_certificate.specs.Placement.{IsProperRequest, IsPermittedStart}
use Rattle.page_services.specs.declared.page_book.Placed.{Placed}
use Rattle.page_services.specs.PageRules.{Book, IsInGranule, HasWholeGranules, IsInGranules, range_from, IsAligned, changed_book, whole_pages, whole_request, if_counted, Choice, IsBestChoice, FindsNoStart, RefusesPages, PlacesPages, any_pages, max_address, fixed_address, IsValidRequest, placement_request, IsFree, IsPlaced, AllocatesPages, IsValidRange, IsAllocated, granule_of, freed_book, freed_range, FreesPages, placed_book, pool_request, TakesForPool, given_back, GivesFromPool}
use Rattle.page_services.proofs.Choices.{Permits}

-- ---- pages of one granule

-- with a range that starts and ends at borders lies the whole granule of each of its pages
aligned : (first pages k j g : ℕ) → IsGranule g → first % g ≡ 0 → pages % g ≡ 0 → k / g ≡ j / g → first ≤ k → k < first + pages → (first ≤ j) × (j < first + pages)
aligned first pages k j g is start whole same low high =
    for_granules (λ g. first % g ≡ 0 → pages % g ≡ 0 → k / g ≡ j / g → (first ≤ j) × (j < first + pages)) (λ s w e. (omega arith, omega arith)) (λ s w e. (omega arith, omega arith)) g is start whole same

above_border : (first k j g : ℕ) → IsGranule g → first % g ≡ 0 → k / g ≡ j / g → first ≤ j → first ≤ k
above_border first k j g is start same low = for_granules (λ g. first % g ≡ 0 → k / g ≡ j / g → first ≤ k) (λ s e. omega arith) (λ s e. omega arith) g is start same

below_border : (end k j g : ℕ) → IsGranule g → end % g ≡ 0 → k / g ≡ j / g → j < end → k < end
below_border end k j g is start same high = for_granules (λ g. end % g ≡ 0 → k / g ≡ j / g → k < end) (λ s e. omega arith) (λ s e. omega arith) g is start same

-- a page between two of one granule lies in it
between : (k n j g : ℕ) → IsGranule g → k / g ≡ j / g → k ≤ n → n ≤ j → n / g ≡ j / g
between k n j g is same low high = for_granules (λ g. k / g ≡ j / g → n / g ≡ j / g) (λ e. omega arith) (λ e. omega arith) g is same

floor_whole : (n g : ℕ) → IsGranule g → (n - n % g) % g ≡ 0
floor_whole n = for_granules (λ g. (n - n % g) % g ≡ 0) (omega arith) (omega arith)

above_floor : (n k g : ℕ) → IsGranule g → n - n % g ≤ k → k ≤ n → k / g ≡ n / g
above_floor n k g is low high = for_granules (λ g. n - n % g ≤ k → k / g ≡ n / g) (λ l. omega arith) (λ l. omega arith) g is low

below_ceiling : (n k g : ℕ) → IsGranule g → n ≤ k → k < rounded (n + 1) g → k / g ≡ n / g
below_ceiling n k g is low high =
    for_granules (λ g. k < rounded (n + 1) g → k / g ≡ n / g) (λ h. omega (arith, rounded_one (n + 1))) (λ h. omega (arith, rounded_least (n + 1) (n / 16 * 16 + 16) 16 (inr refl) (omega arith) (omega arith))) g is high

-- ---- a range gets a type and an owner

abbrev IsInside : PageRange → ℕ → Type 0
IsInside range k = (range.first ≤ k) × (k < range.first + range.pages)

abbrev IsOutside : PageRange → ℕ → Type 0
IsOutside range k = (k < range.first) ⊎ (range.first + range.pages ≤ k)

inside_or_outside : (range : PageRange) (k : ℕ) → IsInside range k ⊎ IsOutside range k
inside_or_outside range k = elim (cases_lt k range.first) [
  | inl low ↦ inr (inl low)
  | inr from ↦ elim (cases_lt k (range.first + range.pages)) [ inl below ↦ inl (from, below) | inr high ↦ inr (inr high) ]
]

not_both : (range : PageRange) (k : ℕ) → IsInside range k → IsOutside range k → ⊥
not_both range k is (inl low) = omega (arith, is.0)
not_both range k is (inr high) = omega (arith, is.1)

-- the changed memory has the range's pages, changed, and all others as they were
changed_inside : (range : PageRange) (t : ℕ) (o : Owner) (k : ℕ) (p : Option Page) → IsInside range k → ((x : Page) → p ≡ Some x → x.number ≡ k) → option_map (changed range t o) p ≡ option_map (retyped_page t o) p
changed_inside range t o k None is number = refl
changed_inside range t o k (Some x) is number = ap Some (changed_in range t o x (omega (arith, is.0, number x refl)) (omega (arith, is.1, number x refl)))

changed_outside : (range : PageRange) (t : ℕ) (o : Owner) (k : ℕ) (p : Option Page) → IsOutside range k → ((x : Page) → p ≡ Some x → x.number ≡ k) → option_map (changed range t o) p ≡ p
changed_outside range t o k None out number = refl
changed_outside range t o k (Some x) (inl low) number = ap Some (changed_below range t o x (omega (arith, low, number x refl)))
changed_outside range t o k (Some x) (inr high) number = ap Some (changed_above range t o x (omega (arith, high, number x refl)))

page_inside : (range : PageRange) (t : ℕ) (o : Owner) (m : List Page) (k : ℕ) → IsInside range k → page_at (retyped range t o m) k ≡ option_map (retyped_page t o) (page_at m k)
page_inside range t o m k is = page_at-retyped range t o m k ∙ changed_inside range t o k (page_at m k) is (page_at-number m k)

page_outside : (range : PageRange) (t : ℕ) (o : Owner) (m : List Page) (k : ℕ) → IsOutside range k → page_at (retyped range t o m) k ≡ page_at m k
page_outside range t o m k out = page_at-retyped range t o m k ∙ changed_outside range t o k (page_at m k) out (page_at-number m k)

-- the type and the owner are those of pages in granules that AllocatePages placed
abbrev AreInGranules : ℕ → Owner → Type 0
AreInGranules t o = (o ≡ Pages) × (is_granular t ≡ true)

made_so : (t : ℕ) (o : Owner) (p : Option Page) → IsInGranule (option_map (retyped_page t o) p) → AreInGranules t o
made_so t o None h = absurd h
made_so t o (Some x) h = h

make_so : (t : ℕ) (o : Owner) (p : Option Page) → IsPresent p → AreInGranules t o → IsInGranule (option_map (retyped_page t o) p)
make_so t o None present h = absurd present
make_so t o (Some x) present h = h

-- Of each granule that AllocatePages placed the range has all pages or none.
abbrev IsClosed : ℕ → List Page → PageRange → Type 0
IsClosed g m range = (k j : ℕ) → k / g ≡ j / g → IsInside range j → IsInGranule (page_at m j) → IsInside range k

-- the range has all pages of a granule or none, and each is present
abbrev IsWholeRange : ℕ → List Page → PageRange → Type 0
IsWholeRange g m range = ((k j : ℕ) → k / g ≡ j / g → IsInside range k → IsInside range j) × AllInRange m range IsPresent

retyped_granules : (g : ℕ) (range : PageRange) (t : ℕ) (o : Owner) (m : List Page) → IsClosed g m range → (AreInGranules t o → IsWholeRange g m range) → HasWholeGranules g m → HasWholeGranules g (retyped range t o m)
retyped_granules g range t o m closed made whole = λ k j same was. elim (inside_or_outside range k) [
  | inl here ↦
      let new = made_so t o (page_at m k) (subst IsInGranule (page_inside range t o m k here) was) in
      let (all, present) = made new in
      let there = all k j same here in
      subst IsInGranule (sym (page_inside range t o m j there)) (make_so t o (page_at m j) (present j there.0 there.1) new)
  | inr out ↦
      let old = whole k j same (subst IsInGranule (page_outside range t o m k out) was) in
      elim (inside_or_outside range j) [
        | inl there ↦ absurd (not_both range k (closed k j same there old) out)
        | inr apart ↦ subst IsInGranule (sym (page_outside range t o m j apart)) old
      ]
]

-- ---- a new book

unowned : (p : Option Page) → ¬ IsOwnedBy Pages p → ¬ IsInGranule p
unowned None other h = h
unowned (Some x) other h = other h.0

pub unowned_granules : (g : ℕ) (m : List Page) → ((k : ℕ) → ¬ IsOwnedBy Pages (page_at m k)) → HasWholeGranules g m
unowned_granules g m other k j same was = absurd (unowned (page_at m k) (other k) was)

given_page : (m : List Page) (k : ℕ) (p : Option Page) → AllByRecursion (λ x. x.owner ≡ Given) m → page_at m k ≡ p → ¬ IsOwnedBy Pages p
given_page m k None all at owned = owned
given_page m k (Some x) all at owned = let given : x.owner ≡ Given = page_at-all (λ x. x.owner ≡ Given) m k x all at in absurd cc

pub given_granules : (g : ℕ) (m : List Page) → AllByRecursion (λ x. x.owner ≡ Given) m → HasWholeGranules g m
given_granules g m all = unowned_granules g m (λ k. given_page m k (page_at m k) all refl)

-- ---- pages that are placed

free_is_in_none : (p : Option Page) → IsConventional p → ¬ IsInGranule p
free_is_in_none None free h = h
free_is_in_none (Some x) free h = absurd (true≢false (sym h.1 ∙ ap is_granular free))

free_present : (p : Option Page) → IsConventional p → IsPresent p
free_present None free = absurd free
free_present (Some x) free = tt

-- what memory is reserved is no matter of granules
pub reserved_granules : (b : Book) (reserved frees ends held : ℕ) → IsInGranules b → IsInGranules (record b { reserved = reserved; frees = frees; ends = ends; held = held })
reserved_granules b reserved frees ends held is = record { granule = is.granule; whole = is.whole }

-- pages of a type and an owner are put in a free range that fills granules of the type
pub taken_granules : (b : Book) (range : PageRange) (t : ℕ) (o : Owner) → range.first % granule_for t b.granule ≡ 0 → range.pages % granule_for t b.granule ≡ 0 → AllInRange b.memory range IsConventional → IsInGranules b → IsInGranules (changed_book range t o b)
taken_granules b range t o start filled free is =
    let closed : IsClosed b.granule b.memory range = λ k j same there was. absurd (free_is_in_none (page_at b.memory j) (free j there.0 there.1) was) in
    let present : AllInRange b.memory range IsPresent = λ k low high. free_present (page_at b.memory k) (free k low high) in
    let to_border : AreInGranules t o → (n : ℕ) → n % granule_for t b.granule ≡ 0 → n % b.granule ≡ 0 = λ so n e. subst (λ g. n % g ≡ 0) (granule_for_granular t b.granule so.1) e in
    let all : AreInGranules t o → (k j : ℕ) → k / b.granule ≡ j / b.granule → IsInside range k → IsInside range j = λ so k j same here. aligned range.first range.pages k j b.granule is.granule (to_border so range.first start) (to_border so range.pages filled) same here.0 here.1 in
    record { granule = is.granule; whole = retyped_granules b.granule range t o b.memory closed (λ so. (all so, present)) is.whole }

pool_is_other : Pool ≡ Pages → ⊥
pool_is_other e = absurd cc

given_is_other : Given ≡ Pages → ⊥
given_is_other e = absurd cc

pub placed_granules : (b : Book) (r : Request) (p : ℕ) → IsPermittedStart b.memory r p → IsInGranules b → IsInGranules (changed_book (record { first = p; pages = r.pages }) r.mtype Pool b)
placed_granules b r p is kept =
    let range : PageRange = record { first = p; pages = r.pages } in
    let closed : IsClosed b.granule b.memory range = λ k j same there was. absurd (free_is_in_none (page_at b.memory j) (is.conventional j there.0 there.1) was) in
    record { granule = kept.granule; whole = retyped_granules b.granule range r.mtype Pool b.memory closed (λ so. absurd (pool_is_other so.0)) kept.whole }

-- ---- AllocatePages

requested_one : (b c : Bool) (x y r : Request) → cond b (Some x) (cond c (Some y) None) ≡ Some r → (r ≡ x) ⊎ (r ≡ y)
requested_one true c x y r e = inl (sym (same_Some x r e))
requested_one false true x y r e = inr (sym (same_Some y r e))
requested_one false false x y r e = absurd cc

-- a request is for whole granules, up to some limit
pub requested : (g kind t pages memory : ℕ) (r : Request) → placement_request g kind t pages memory ≡ Some r → (limit : ℕ) × (r ≡ whole_request g t pages limit)
requested g kind t pages memory r e = elim (requested_one (kind == any_pages) (kind == max_address) (whole_request g t pages page_count) (whole_request g t pages (pages_below memory)) r e) [
  | inl is ↦ (page_count, is)
  | inr is ↦ (pages_below memory, is)
]

-- pages were placed at a start of granules of the type, and the range was free
abbrev WasFree : Book → ℕ → ℕ → ℕ → Type 0
WasFree b t pages address = ((address / page_size) % granule_for t b.granule ≡ 0) × AllInRange b.memory (range_from address (whole_pages b.granule t pages)) IsConventional

permitted_free : (b : Book) (r : Request) (t pages limit start address : ℕ) → r ≡ whole_request b.granule t pages limit → IsPermittedStart b.memory r start → address ≡ start * page_size → WasFree b t pages address
permitted_free b r t pages limit start address e permitted at =
    let is : IsPermittedStart b.memory (whole_request b.granule t pages limit) start = subst (λ q. IsPermittedStart b.memory q start) e permitted in
    let first : address / page_size ≡ start = omega arith in
    subst (λ n. (n % granule_for t b.granule ≡ 0) × AllInRange b.memory (record { first = n; pages = whole_pages b.granule t pages }) IsConventional) (sym first) (is.whole, is.conventional)

module _ {A : Type 0} (Chosen : Choice) (permits : Permits Chosen) where
  was_free : (b : Book) (o : Option Request) (t pages memory : ℕ) (placed : Placed A) → ((r : Request) → o ≡ Some r → (limit : ℕ) × (r ≡ whole_request b.granule t pages limit)) → IsPlaced Chosen b o t pages memory placed → WasFree b t pages placed.address
  was_free b None t pages memory placed whole (free, at, rest) = subst (WasFree b t pages) (sym at) (free.1, free.2)
  was_free b (Some r) t pages memory placed whole (start, chosen, at) =
      let (limit, e) = whole r refl in
      permitted_free b r t pages limit start placed.address e (permits b r start placed.certificate chosen) at

  pub allocates_granules : (b new : Book) (kind t pages memory : ℕ) (result : Result (Placed A) Status) → AllocatesPages Chosen b kind t pages memory result new → IsInGranules b → IsInGranules new
  allocates_granules b new kind t pages memory (Ok placed) (valid, at, e) is =
      let (start, free) = was_free b (placement_request b.granule kind t pages memory) t pages memory placed (λ r. requested b.granule kind t pages memory r) at in
      let filled : whole_pages b.granule t pages % granule_for t b.granule ≡ 0 = rounded_fills pages (granule_for t b.granule) (granule_for_granule t b.granule is.granule) in
      subst IsInGranules (sym e) (reserved_granules _ _ _ _ _ (taken_granules b (range_from placed.address (whole_pages b.granule t pages)) t Pages start filled free is))
  allocates_granules b new kind t pages memory (Err status.InvalidParameter) h is = subst IsInGranules (sym h.1) is
  allocates_granules b new kind t pages memory (Err status.NotFound) h is = subst IsInGranules (sym h.3) is
  allocates_granules b new kind t pages memory (Err status.OutOfResources) h is = subst IsInGranules (sym h.2) is
  allocates_granules b new kind t pages memory (Err other) h is = absurd h

  -- ---- pages for the pool

  pub places_granules : (b new : Book) (r : Request) (result : Result (Placed A) Status) → PlacesPages Chosen b r Pool result new → IsInGranules b → IsInGranules new
  places_granules b new r (Ok placed) ((start, chosen, at), e) is =
      let first : placed.address / page_size ≡ start = omega arith in
      subst IsInGranules (sym e) (reserved_granules _ _ _ _ _ (subst (λ n. IsInGranules (changed_book (record { first = n; pages = r.pages }) r.mtype Pool b)) (sym first) (placed_granules b r start (permits b r start placed.certificate chosen) is)))
  places_granules b new r (Err status.OutOfResources) h is = subst IsInGranules (sym h.0) is
  places_granules b new r (Err other) h is = absurd h

  pub takes_granules : (b new : Book) (t pages : ℕ) (result : Result (Placed A) Status) → TakesForPool Chosen b t pages result new → IsInGranules b → IsInGranules new
  takes_granules b new t pages result h is = places_granules b new (pool_request b.granule t pages) result h is

-- ---- pages that the pool gives back

pool_is_in_none : (p : Option Page) → IsOwnedBy Pool p → ¬ IsInGranule p
pool_is_in_none None owned h = h
pool_is_in_none (Some x) owned h = pool_is_other (sym owned ∙ h.0)

pub returned : (range : PageRange) (b : Book) → AllInRange b.memory range (IsOwnedBy Pool) → IsInGranules b → IsInGranules (changed_book range conventional Given b)
returned range b owned is =
    let closed : IsClosed b.granule b.memory range = λ k j same there was. absurd (pool_is_in_none (page_at b.memory j) (owned j there.0 there.1) was) in
    record { granule = is.granule; whole = retyped_granules b.granule range conventional Given b.memory closed (λ so. absurd (given_is_other so.0)) is.whole }

pub given_back_granules : (range : PageRange) (b : Book) → AllInRange b.memory range (IsOwnedBy Pool) → IsInGranules b → IsInGranules (given_back range b)
given_back_granules range b owned is = elim (cases_eq range.pages 0) [
  | inl none ↦ subst IsInGranules (sym (cond-true _ _ _ (eq-eqb range.pages 0 none))) is
  | inr some ↦ subst IsInGranules (sym (cond-false _ _ _ (ne_eqb range.pages 0 some))) (reserved_granules _ _ _ _ _ (returned range b owned is))
]

pub gives_granules : (b new : Book) (range : PageRange) (result : Result (Unit {0}) Status) → AllInRange b.memory range (IsOwnedBy Pool) → GivesFromPool b range result new → IsInGranules b → IsInGranules new
gives_granules b new range (Ok done) owned e is = subst IsInGranules (sym e) (given_back_granules range b owned is)
gives_granules b new range (Err status.OutOfResources) owned h is = subst IsInGranules (sym h.0) is
gives_granules b new range (Err other) owned h is = absurd h

-- ---- FreePages

granule_of_cases : (g : ℕ) (p : Option Page) → ((granule_of g p ≡ g) × (IsOwnedBy Pages p → IsInGranule p)) ⊎ ((granule_of g p ≡ 1) × ¬ IsInGranule p)
granule_of_cases g None = inr (refl, λ h. h)
granule_of_cases g (Some x) = elim (cases_Bool (is_granular x.mtype)) [
  | inl e ↦ inl (granule_for_granular x.mtype g e, λ owned. (owned, e))
  | inr e ↦ inr (granule_for_other x.mtype g e, λ h. absurd (true≢false (sym h.1 ∙ e)))
]

pub granule_of_granule : (g : ℕ) (p : Option Page) → IsGranule g → IsGranule (granule_of g p)
granule_of_granule g None is = inl refl
granule_of_granule g (Some x) is = granule_for_granule x.mtype g is

owned_in_granule : (p : Option Page) → IsInGranule p → IsOwnedBy Pages p
owned_in_granule None h = absurd h
owned_in_granule (Some x) h = h.0

-- where the range that is freed begins, and where it ends
abbrev first_freed : Book → ℕ → ℕ
first_freed b named = named - named % granule_of b.granule (page_at b.memory named)

abbrev end_freed : Book → ℕ → ℕ
end_freed b stop = rounded stop (granule_of b.granule (page_below b.memory stop))

module _ (b : Book) (is : IsInGranules b) where
  end_at_least : (stop : ℕ) → stop ≤ end_freed b stop
  end_at_least stop = rounded_at_least stop _ (granule_of_granule b.granule (page_below b.memory stop) is.granule)

  -- No granule that AllocatePages placed goes on past either end.
  opens : (named k j : ℕ) → k / b.granule ≡ j / b.granule → first_freed b named ≤ j → IsInGranule (page_at b.memory j) → first_freed b named ≤ k
  opens named k j same low was = elim (granule_of_cases b.granule (page_at b.memory named)) [
    | inl (e, so) ↦
        let at : first_freed b named ≡ named - named % b.granule = ap (λ n. named - named % n) e in
        subst (λ n. n ≤ k) (sym at) (above_border (named - named % b.granule) k j b.granule is.granule (floor_whole named b.granule is.granule) same (subst (λ n. n ≤ j) at low))
    | inr (e, other) ↦
        let at : first_freed b named ≡ named = ap (λ n. named - named % n) e ∙ (omega (arith, mod_one named)) in
        elim (cases_lt k named) [
          | inr from ↦ omega (arith, at)
          | inl below ↦ absurd (other (is.whole j named (sym (between k named j b.granule is.granule same (omega arith) (omega (arith, at)))) was))
        ]
  ]

  closes : (stop k j : ℕ) → k / b.granule ≡ j / b.granule → j < end_freed b stop → IsInGranule (page_at b.memory j) → k < end_freed b stop
  closes stop k j same high was = elim (granule_of_cases b.granule (page_below b.memory stop)) [
    | inl (e, so) ↦
        let at : end_freed b stop ≡ rounded stop b.granule = ap (rounded stop) e in
        subst (λ n. k < n) (sym at) (below_border (rounded stop b.granule) k j b.granule is.granule (rounded_fills stop b.granule is.granule) same (subst (λ n. j < n) at high))
    | inr (e, other) ↦
        let at : end_freed b stop ≡ stop = ap (rounded stop) e ∙ rounded_one stop in
        elim (cases_lt k stop) [
          | inl below ↦ omega (arith, at)
          | inr from ↦
              let near : (stop - 1) / b.granule ≡ k / b.granule = between j (stop - 1) k b.granule is.granule (sym same) (omega (arith, at)) (omega arith) in
              absurd (other (subst IsInGranule (sym (page_below-page_at b.memory stop (omega (arith, at)))) (is.whole j (stop - 1) (sym (near ∙ same)) was)))
        ]
  ]

  freed_closed : (address pages : ℕ) → IsClosed b.granule b.memory (freed_range b address pages)
  freed_closed address pages k j same there was =
      let named = address / page_size in
      let from : first_freed b named ≤ k = opens named k j same there.0 was in
      let high : j < end_freed b (named + pages) = omega (arith, there.0, there.1) in
      let below : k < end_freed b (named + pages) = closes (named + pages) k j same high was in
      (from, omega (arith, from, below))

-- the book once that range is freed
pub freed_granules : (b : Book) (address pages : ℕ) → IsInGranules b → IsInGranules (changed_book (freed_range b address pages) conventional Given b)
freed_granules b address pages is = record { granule = is.granule; whole = retyped_granules b.granule (freed_range b address pages) conventional Given b.memory (freed_closed b is address pages) (λ so. absurd (given_is_other so.0)) is.whole }

pub frees_granules : (b new : Book) (address pages : ℕ) (result : Result (Unit {0}) Status) → FreesPages b address pages result new → IsInGranules b → IsInGranules new
frees_granules b new address pages (Ok done) (valid, owned, e) is = subst IsInGranules (sym e) (reserved_granules _ _ _ _ _ (freed_granules b address pages is))
frees_granules b new address pages (Err status.InvalidParameter) h is = subst IsInGranules (sym h.1) is
frees_granules b new address pages (Err status.NotFound) h is = subst IsInGranules (sym h.2) is
frees_granules b new address pages (Err status.OutOfResources) h is = subst IsInGranules (sym h.2) is
frees_granules b new address pages (Err other) h is = absurd h

-- ---- what is freed

pub freed_owned : (b : Book) (address pages : ℕ) → IsInGranules b → 0 < pages → IsAllocated b.memory address pages → AllInRange b.memory (freed_range b address pages) (IsOwnedBy Pages)
freed_owned b address pages is some owned k low high =
    let named = address / page_size in
    let stop = named + pages in
    elim (cases_lt k named) [
      | inl below ↦ elim (granule_of_cases b.granule (page_at b.memory named)) [
        | inl (e, so) ↦
            let at : first_freed b named ≡ named - named % b.granule = ap (λ n. named - named % n) e in
            let near : k / b.granule ≡ named / b.granule = above_floor named k b.granule is.granule (omega (arith, at, low)) (omega arith) in
            owned_in_granule (page_at b.memory k) (is.whole named k (sym near) (so (owned named (omega arith) (omega arith))))
        | inr (e, other) ↦
            let at : first_freed b named ≡ named = ap (λ n. named - named % n) e ∙ (omega (arith, mod_one named)) in
            absurd (omega (arith, at, low))
      ]
      | inr from ↦ elim (cases_lt k stop) [
        | inl inside ↦ owned k from inside
        | inr past ↦ elim (granule_of_cases b.granule (page_below b.memory stop)) [
          | inl (e, so) ↦
              let last : stop ≡ stop - 1 + 1 = omega arith in
              let at : end_freed b stop ≡ rounded (stop - 1 + 1) b.granule = ap (rounded stop) e ∙ ap (λ n. rounded n b.granule) last in
              let here : page_below b.memory stop ≡ page_at b.memory (stop - 1) = page_below-page_at b.memory stop (omega arith) in
              let near : k / b.granule ≡ (stop - 1) / b.granule = below_ceiling (stop - 1) k b.granule is.granule (omega arith) (omega (arith, at, low, high)) in
              let was : IsOwnedBy Pages (page_at b.memory (stop - 1)) = owned (stop - 1) (omega arith) (omega arith) in
              owned_in_granule (page_at b.memory k) (is.whole (stop - 1) k (sym near) (subst IsInGranule here (so (subst (IsOwnedBy Pages) (sym here) was))))
          | inr (e, other) ↦
              let at : end_freed b stop ≡ stop = ap (rounded stop) e ∙ rounded_one stop in
              absurd (omega (arith, at, low, high))
        ]
      ]
    ]

pub freed_end : (b : Book) (address pages : ℕ) → IsInGranules b → address / page_size + pages ≤ page_count → (freed_range b address pages).first + (freed_range b address pages).pages ≤ page_count
freed_end b address pages is fits =
    let stop = address / page_size + pages in
    let granule = granule_of b.granule (page_below b.memory stop) in
    let is_one : IsGranule granule = granule_of_granule b.granule (page_below b.memory stop) is.granule in
    let end : end_freed b stop ≤ page_count = rounded_least stop page_count granule is_one fits (for_granules (λ g. page_count % g ≡ 0) (omega arith) (omega arith) granule is_one) in
    omega (arith, end, end_at_least b is stop)

pub freed_names : (b : Book) (address pages : ℕ) → IsInGranules b → ((freed_range b address pages).first ≤ address / page_size) × (address / page_size + pages ≤ (freed_range b address pages).first + (freed_range b address pages).pages)
freed_names b address pages is = (omega arith, omega (arith, end_at_least b is (address / page_size + pages)))

-- ---- requests

pub whole_pages_some : (g t pages : ℕ) → IsGranule g → 0 < pages → 0 < whole_pages g t pages
whole_pages_some g t pages is some = rounded_some pages (granule_for t g) (granule_for_granule t g is) some

pub whole_request_proper : (g t pages limit : ℕ) → IsGranule g → is_bad_type t ≡ false → 0 < pages → IsProperRequest (whole_request g t pages limit)
whole_request_proper g t pages limit is good some = record {
  some = whole_pages_some g t pages is some;
  good = good;
  granule = granule_for_granule t g is;
  typed = granule_for_twice t g;
  filled = rounded_fills pages (granule_for t g) (granule_for_granule t g is);
}

pub placement_request_proper : (g kind t pages memory : ℕ) (r : Request) → IsGranule g → is_bad_type t ≡ false → 0 < pages → placement_request g kind t pages memory ≡ Some r → IsProperRequest r
placement_request_proper g kind t pages memory r is good some e =
    let (limit, whole) = requested g kind t pages memory r e in
    subst IsProperRequest (sym whole) (whole_request_proper g t pages limit is good some)

pub counted : (r : Request) → r.pages < 2 ^ 64 → if_counted r ≡ Some r
counted r small = ap (option_map (λ (n : ℕ). r)) (if_64_bits_some r.pages small)

pub uncounted : (r : Request) → 2 ^ 64 ≤ r.pages → if_counted r ≡ None
uncounted r large = ap (option_map (λ (n : ℕ). r)) (if_64_bits_none r.pages large)

pub counted_is : (r q : Request) → if_counted r ≡ Some q → (q ≡ r) × (r.pages < 2 ^ 64)
counted_is r q e = elim (cases_lt r.pages (2 ^ 64)) [
  | inl small ↦ (sym (same_Some r q (sym (counted r small) ∙ e)), small)
  | inr large ↦ let none : None ≡ Some q = sym (uncounted r large) ∙ e in absurd cc
]

pub permitted_counted : (m : List Page) (r : Request) (p : ℕ) → IsPermittedStart m r p → r.limit ≤ page_count → if_counted r ≡ Some r
permitted_counted m r p is fits = counted r (omega (arith, is.within, fits))

pub placement_request_limit : (g kind t pages memory : ℕ) (r : Request) → memory < 2 ^ 64 → placement_request g kind t pages memory ≡ Some r → r.limit ≤ page_count
placement_request_limit g kind t pages memory r small e = elim (requested_one (kind == any_pages) (kind == max_address) (whole_request g t pages page_count) (whole_request g t pages (pages_below memory)) r e) [
  | inl is ↦ omega (arith, ap (λ (q : Request). q.limit) is)
  | inr is ↦ omega (arith, ap (λ (q : Request). q.limit) is)
]

-- ---- what the calls find

abbrev span : ℕ → ℕ → PageRange
span first end = record { first = first; pages = end - first }

-- the range that is freed, from the granules of the pages at its ends
pub freed_is : (b : Book) (first pages low high end : ℕ) → low ≡ granule_of b.granule (page_at b.memory first) → high ≡ granule_of b.granule (page_at b.memory (first + pages - 1)) → 0 < pages → end ≡ rounded (first + pages) high → span (first - first % low) end ≡ freed_range b (first * page_size) pages
freed_is b first pages low high end low_is high_is some end_is =
    let named : first ≡ first * page_size / page_size = omega arith in
    let begins : first - first % low ≡ first_freed b first = ap (λ n. first - first % n) low_is in
    let below : page_at b.memory (first + pages - 1) ≡ page_below b.memory (first + pages) = sym (page_below-page_at b.memory (first + pages) (omega arith)) in
    let ends : end ≡ end_freed b (first + pages) = end_is ∙ ap (rounded (first + pages)) (high_is ∙ ap (granule_of b.granule) below) in
    ap (λ n. span n end) begins ∙ ap (span (first_freed b first)) ends ∙ ap (λ n. span (first_freed b n) (end_freed b (n + pages))) named

granule_of_one : (g : ℕ) (p : Option Page) → g ≡ 1 → granule_of g p ≡ 1
granule_of_one g None one = refl
granule_of_one g (Some x) one = ap (granule_for x.mtype) one ∙ granule_for_one x.mtype

-- where granules are pages, the range that is freed is the named one
pub freed_as_named : (b : Book) (range : PageRange) → b.granule ≡ 1 → 0 < range.pages → range ≡ freed_range b (range.first * page_size) range.pages
freed_as_named b range one some =
    let end : ℕ = range.first + range.pages in
    let is = freed_is b range.first range.pages 1 1 end (sym (granule_of_one b.granule (page_at b.memory range.first) one)) (sym (granule_of_one b.granule (page_at b.memory (end - 1)) one)) some (sym (rounded_one end)) in
    let first : range.first ≡ range.first - range.first % 1 = omega (arith, mod_one range.first) in
    let pages : range.pages ≡ end - range.first = omega arith in
    ap (λ n. record { first = range.first; pages = n }) pages ∙ ap (λ n. span n end) first ∙ is

pub no_such_page : (m : List Page) (k : ℕ) (p : Option Page) → IsProperMemory m → page_count ≤ k → page_at m k ≡ p → ¬ IsConventional p
no_such_page m k None proper high at free = free
no_such_page m k (Some x) proper high at free = omega (arith, page_at-number m k x at, (page_at-all IsProperPage m k x proper.each at).number)

-- the number of pages of a proper memory has at most 64 bits
pub too_many : (b : Book) (t pages address : ℕ) → IsProperMemory b.memory → address < 2 ^ 64 → 2 ^ 64 ≤ whole_pages b.granule t pages → ¬ IsFree b t pages address
too_many b t pages address proper small large free = no_such_page b.memory page_count (page_at b.memory page_count) proper (omega arith) refl (free.2 page_count (omega arith) (omega (arith, large)))

-- a number that is rounded and returned is the rounded one, since no page number is near 64 bits
pub rounded_returned : (n g : ℕ) (returned : Option ℕ) (end : ℕ) → returned ≡ if_64_bits (rounded n g) → end ≡ unwrap_or returned n → IsGranule g → n ≤ page_count → end ≡ rounded n g
rounded_returned n g returned end e u is fits = u ∙ ap (λ o. unwrap_or o n) (e ∙ if_64_bits_some (rounded n g) (omega (arith, rounded_near n g is, fits)))

-- ---- places that were chosen or named

pub chosen_granules : (b : Book) (r : Request) (p : ℕ) (o : Owner) → IsProperRequest r → r.granule ≡ granule_for r.mtype b.granule → IsPermittedStart b.memory r p → IsInGranules b → IsInGranules (changed_book (record { first = p; pages = r.pages }) r.mtype o b)
chosen_granules b r p o proper e permitted is = taken_granules b (record { first = p; pages = r.pages }) r.mtype o (subst (λ g. p % g ≡ 0) e permitted.whole) (subst (λ g. r.pages % g ≡ 0) e proper.filled) permitted.conventional is

returned_number : (n m : ℕ) → if_64_bits n ≡ Some m → n ≡ m
returned_number n m e = elim (cases_lt n (2 ^ 64)) [
  | inl small ↦ same_Some n m (sym (if_64_bits_some n small) ∙ e)
  | inr large ↦ let none : None ≡ Some m = sym (if_64_bits_none n large) ∙ e in absurd cc
]

untold_number : (n : ℕ) → if_64_bits n ≡ None → 2 ^ 64 ≤ n
untold_number n e = elim (cases_lt n (2 ^ 64)) [
  | inl small ↦ let some : Some n ≡ None = sym (if_64_bits_some n small) ∙ e in absurd cc
  | inr large ↦ large
]

module _ (b : Book) (t pages address granule : ℕ) (of_type : granule ≡ granule_for t b.granule) where
  -- the pages that fill granules are returned, or are more than any memory has
  pub returned_pages : (count : ℕ) → if_64_bits (rounded pages granule) ≡ Some count → whole_pages b.granule t pages ≡ count
  returned_pages count e = ap (rounded pages) (sym of_type) ∙ returned_number (rounded pages granule) count e

  pub named_granules : (count : ℕ) → if_64_bits (rounded pages granule) ≡ Some count → (address / page_size) % granule ≡ 0 → AllInRange b.memory (range_from address count) IsConventional → IsInGranules b → IsInGranules (changed_book (range_from address count) t Pages b)
  named_granules count e start free is =
      let filled : whole_pages b.granule t pages % granule_for t b.granule ≡ 0 = rounded_fills pages (granule_for t b.granule) (granule_for_granule t b.granule is.granule) in
      taken_granules b (range_from address count) t Pages (subst (λ g. (address / page_size) % g ≡ 0) of_type start) (subst (λ n. n % granule_for t b.granule ≡ 0) (returned_pages count e) filled) free is

  pub not_free : (count : ℕ) → if_64_bits (rounded pages granule) ≡ Some count → ¬ AllInRange b.memory (range_from address count) IsConventional → ¬ IsFree b t pages address
  not_free count e taken free = taken (subst (λ n. AllInRange b.memory (range_from address n) IsConventional) (returned_pages count e) free.2)

  pub never_free : if_64_bits (rounded pages granule) ≡ None → IsProperMemory b.memory → address < 2 ^ 64 → ¬ IsFree b t pages address
  never_free e proper small = too_many b t pages address proper small (subst (λ g. 2 ^ 64 ≤ rounded pages g) of_type (untold_number (rounded pages granule) e))

-- ---- what the calls answer

counted_one : (o : Option Request) (r : Request) → option_and_then if_counted o ≡ Some r → o ≡ Some r
counted_one None r e = cc
counted_one (Some q) r e = ap Some (sym (counted_is q r e).0)

pub asked_request : (g kind t pages memory : ℕ) (r : Request) → option_and_then if_counted (placement_request g kind t pages memory) ≡ Some r → placement_request g kind t pages memory ≡ Some r
asked_request g kind t pages memory r e = counted_one (placement_request g kind t pages memory) r e

pub asked_granule : (g kind t pages memory : ℕ) (r : Request) → placement_request g kind t pages memory ≡ Some r → r.granule ≡ granule_for r.mtype g
asked_granule g kind t pages memory r e =
    let (limit, whole) = requested g kind t pages memory r e in
    subst (λ (q : Request). q.granule ≡ granule_for q.mtype g) (sym whole) refl

good_or_refused : (bad : Bool) (n m : ℕ) → cond bad (Err status.InvalidParameter) (Ok n) ≡ Ok m → (bad ≡ false) × (n ≡ m)
good_or_refused true n m e = absurd cc
good_or_refused false n m e = (refl, cc)

pub named_type : (n m : ℕ) → cond (is_bad_type n) (Err status.InvalidParameter) (Ok n) ≡ Ok m → (is_bad_type n ≡ false) × (n ≡ m)
named_type n m e = good_or_refused (is_bad_type n) n m e

module _ {A : Type 0} (b new : Book) (kind t pages memory : ℕ) (r : Request) (valid : IsValidRequest kind t pages) (other : ¬ (kind ≡ fixed_address)) (asked : placement_request b.granule kind t pages memory ≡ Some r) where
  pub allocates_placed : (result : Result (Placed A) Status) → PlacesPages IsBestChoice b r Pages result new → AllocatesPages IsBestChoice b kind t pages memory result new
  allocates_placed (Ok placed) (chosen, e) =
      let (limit, whole) = requested b.granule kind t pages memory r asked in
      let at : IsPlaced IsBestChoice b (placement_request b.granule kind t pages memory) t pages memory placed = subst (λ o. IsPlaced IsBestChoice b o t pages memory placed) (sym asked) chosen in
      (valid, at, e ∙ ap (λ (q : Request). placed_book (range_from placed.address q.pages) q.mtype Pages b) whole)
  allocates_placed (Err status.OutOfResources) (same, refuses) = (valid, λ k. absurd (other k), same, subst (RefusesPages b) (sym asked) refuses)
  allocates_placed (Err rest) h = absurd h

-- ---- where no start is permitted

-- no start is permitted for pages whose number is not counted
pub uncounted_none : (b : Book) (r : Request) → r.limit ≤ page_count → if_counted r ≡ None → FindsNoStart b r
uncounted_none b r fits e plain p permitted = let none : Some r ≡ None = sym (permitted_counted b.memory r p permitted fits) ∙ e in absurd cc

refused_uncounted : (b : Book) (o : Option Request) → ¬ (o ≡ None) → ((r : Request) → o ≡ Some r → r.limit ≤ page_count) → option_and_then if_counted o ≡ None → RefusesPages b o
refused_uncounted b None some fits e = absurd (some refl)
refused_uncounted b (Some r) some fits e = λ has. uncounted_none b r (fits r refl) e

one_asked : (b c : Bool) (x y : Request) → (b ≡ true) ⊎ (c ≡ true) → ¬ (cond b (Some x) (cond c (Some y) None) ≡ None)
one_asked true c x y one e = cc
one_asked false true x y one e = cc
one_asked false false x y (inl one) e = absurd cc
one_asked false false x y (inr one) e = absurd cc

-- each kind that names no address leaves a request
asked_some : (g kind t pages memory : ℕ) → kind ≤ fixed_address → ¬ (kind ≡ fixed_address) → ¬ (placement_request g kind t pages memory ≡ None)
asked_some g kind t pages memory few other = one_asked (kind == any_pages) (kind == max_address) (whole_request g t pages page_count) (whole_request g t pages (pages_below memory)) (elim (cases_eq kind any_pages) [
  | inl any ↦ inl (eq-eqb kind any_pages any)
  | inr not_any ↦ inr (eq-eqb kind max_address (omega arith))
])

pub refused_pages : (b : Book) (kind t pages memory : ℕ) → memory < 2 ^ 64 → kind ≤ fixed_address → ¬ (kind ≡ fixed_address) → option_and_then if_counted (placement_request b.granule kind t pages memory) ≡ None → RefusesPages b (placement_request b.granule kind t pages memory)
refused_pages b kind t pages memory small few other e = refused_uncounted b (placement_request b.granule kind t pages memory) (asked_some b.granule kind t pages memory few other) (λ r. placement_request_limit b.granule kind t pages memory r small) e

-- ---- what FreePages answers

owned_present : (o : Owner) (p : Option Page) → IsOwnedBy o p → IsPresent p
owned_present o None owned = absurd owned
owned_present o (Some x) owned = tt

pub freed_present : (b : Book) (address pages : ℕ) → IsInGranules b → 0 < pages → IsAllocated b.memory address pages → AllInRange b.memory (freed_range b address pages) IsPresent
freed_present b address pages is some owned k low high = owned_present Pages (page_at b.memory k) (freed_owned b address pages is some owned k low high)

-- an aligned address is that of its page
pub page_address : (address : ℕ) → IsAligned address → address / page_size * page_size ≡ address
page_address address aligned = omega arith

pub frees_changed : (b new : Book) (address pages : ℕ) (result : Result (Unit {0}) Status) → IsValidRange address pages → IsAllocated b.memory address pages → MatchResult result (λ done. new ≡ freed_book (freed_range b address pages) b) (λ e. (e ≡ OutOfResources) × (new ≡ b) × (b.frees ≡ 0)) → FreesPages b address pages result new
frees_changed b new address pages (Ok done) valid owned e = (valid, owned, e)
frees_changed b new address pages (Err s) valid owned (e, same, none) = subst (λ s. FreesPages b address pages (Err s) new) (sym e) (valid, owned, same, none)
