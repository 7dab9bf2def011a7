-- Starts whose last pages lie in one block after the other.
use Rattle.std.proofs.Common.{◌≡◌, ℕ, ◌+◌, ◌-◌, ◌%◌, ◌<◌, ◌≤◌, ◌≢◌, min, List, [], ◌∷◌, length, Option, Some, None, inl, inr, sym, ap, subst, ◌∙◌, arith}
use Rattle.std.specs.List.{AllByRecursion}
use Rattle.std.proofs.lemmas.Bool.{cases_lt, cases_eq}
use Rattle.page_ranges.specs.declared.ranges.Descriptor.{Descriptor}
use Rattle.page_ranges.specs.declared.ranges.Owner.TheVariants.{Pages}
use Rattle.page_ranges.specs.MemoryTypes.{page_count}
use Rattle.page_ranges.specs.Granules.{IsGranule}
use Rattle.page_ranges.specs.Memory.{Page, page_at, page_below, IsProperMemory, IsProperPage, IsConventional}
use Rattle.page_ranges.specs.MemoryMap.{memory_map, IsLike, IsIn, IsMaximalBlock, AreInOrder}
use Rattle.page_ranges.specs.Cursors.{IsBlock, IsBlockAt}
use Rattle.page_ranges.proofs.Members.{all_implied}
use Rattle.page_ranges.proofs.Blocks.{map_blocks, entry_is_block, like_present, like_both, like_other}
use Rattle.page_ranges.proofs.Lookups.{page_below-page_at, page_at-number, page_at-all}
use Rattle.page_ranges.proofs.WholeGranules.{some_granule, rounded_at_least, rounded_least}
use Rattle.placement_certificate.specs.declared.certificates.Request.{Request}
use Rattle.placement_certificate.specs.declared.starts.EntryStarts.{EntryStarts}
use Rattle.placement_certificate.specs.Placement.{IsPermittedStart, IsAvailable, price}
use Rattle.placement_certificate.specs.Certificates.{IsTrueLeast}
use Rattle.placement_certificate.specs.Laws.{EndsEntry, adds, saves}
use Rattle.placement_certificate.specs.Search.{multiple_to, IsFound, IsTried, IsOnPage, AreStartsIn, IsAvailableBlock}
use Rattle.placement_certificate.proofs.Edges.{below_is_like, like_available}
use Rattle.placement_certificate.proofs.FoundStarts.{IsTop, tried_unless, least_found}
use Rattle.placement_certificate.proofs.Granules.{multiple_to_whole, multiple_to_most, multiple_to_highest, next_multiple, next_whole}
use Rattle.placement_certificate.proofs.Places.{permitted_end}
use Rattle.placement_certificate.proofs.Prices.{price_is}

-- ---- blocks

pub on_page : (m : List Page) (k : ℕ) (o : Option Descriptor) → IsBlockAt m k o → IsOnPage o (page_at m k)
on_page m k None is = is
on_page m k (Some b) is = is.1 k is.0

pub on_page_below : (m : List Page) (k : ℕ) (o : Option Descriptor) → 0 < k → IsBlockAt m (k - 1) o → IsOnPage o (page_below m k)
on_page_below m k o some is = subst (IsOnPage o) (sym (page_below-page_at m k some)) (on_page m (k - 1) o is)

-- a block ends where page numbers end, at most
pub block_end : (m : List Page) (b : Descriptor) (k : ℕ) → IsProperMemory m → IsBlock m b → IsIn b k → b.first + b.pages ≤ page_count
block_end m b k proper is i =
    let last = b.first + b.pages - 1 in
    let x = like_present b (page_at m last) (is last (record { low = omega (arith, i.low, i.high); high = omega (arith, i.low, i.high) })) in
    omega (arith, page_at-number m last x.0 x.1, (page_at-all IsProperPage m last x.0 proper.each x.1).number, i.low, i.high)

-- the pages of an available block go on with those below it
pub free_in_block : (m : List Page) (first next : ℕ) (b : Descriptor) → IsBlock m b → IsIn b next → IsAvailableBlock b → ((k : ℕ) → first ≤ k → k < next → IsAvailable (page_at m k)) → (k : ℕ) → first ≤ k → k < b.first + b.pages → IsAvailable (page_at m k)
free_in_block m first next b is i free below k low high = elim (cases_lt k next) [
  | inl l ↦ below k low l
  | inr g ↦ like_available b (page_at m k) (is k (record { low = omega (arith, i.low); high = high })) free
]

-- there are no more entries than page numbers
abbrev Fits : Descriptor → Type 0
Fits b = (0 < b.pages) × (b.first + b.pages ≤ page_count)

fits_count : (bs : List Descriptor) (j : ℕ) → AreInOrder bs → AllByRecursion Fits bs → AllByRecursion (λ b. j ≤ b.first) bs → j ≤ page_count → j + length bs ≤ page_count
fits_count [] j order fits from h = omega arith
fits_count (b ∷ bs) j order fits from h = omega (arith, fits_count bs (b.first + b.pages) order.1 fits.1 order.0 fits.0.1, fits.0.0, from.0)

pub few_in_map : (m : List Page) → IsProperMemory m → length (memory_map m) ≤ page_count
few_in_map m proper =
    let blocks = map_blocks m proper.ascending in
    let fits = all_implied (IsMaximalBlock m) Fits (λ b is. (is.some, block_end m b b.first proper is.all (record { low = omega arith; high = omega (arith, is.some) }))) (memory_map m) blocks.0 in
    omega (arith, fits_count (memory_map m) 0 blocks.1 fits (all_implied (IsMaximalBlock m) (λ b. 0 ≤ b.first) (λ b is. omega arith) (memory_map m) blocks.0) (omega arith))

-- no entry ends inside a block
pub inside_block : (m : List Page) (b : Descriptor) (k : ℕ) → IsProperMemory m → IsBlock m b → 0 < k → IsIn b (k - 1) → IsIn b k → ¬ EndsEntry m k
inside_block m b k proper is some below here e =
    let entry = entry_is_block m proper.ascending e.0 e.1 in
    let ends = e.2 in
    let some_pages = entry.some in
    let t = like_both b e.0 (page_at m (k - 1)) (is (k - 1) below) (entry.all (k - 1) (record { low = omega arith; high = omega arith })) in
    entry.none_above (subst (λ j. IsLike e.0 (page_at m j)) e.2 (like_other b e.0 (page_at m k) t.0 t.1 (is k here)))

module _ (m : List Page) (s : EntryStarts) (starts : AreStartsIn m s) where
  abbrev r : Request
  r = s.request

  abbrev e : Descriptor
  e = s.entry

  -- a block with the page below a start
  pub below_start : (p : ℕ) → e.first < p → IsIn e p → IsLike e (page_below m p)
  below_start p above i = below_is_like m e p (entry_is_block m starts.proper.ascending e starts.entry) above (omega (arith, i.high))

  pub below_first : (p : ℕ) → p ≤ e.first → IsIn e p → IsOnPage s.below (page_below m p)
  below_first p low i = let same : p ≡ e.first = omega (arith, i.low) in rw same starts.below

  pub in_entry : IsIn e e.first
  in_entry = let some = (entry_is_block m starts.proper.ascending e starts.entry).some in record { low = omega arith; high = omega arith }

  -- blocks with the pages at a start's edges
  pub first_on : (p : ℕ) → IsIn e p → IsOnPage (Some e) (page_at m p)
  first_on p i = (entry_is_block m starts.proper.ascending e starts.entry).all p i

  pub last_on : (b : Descriptor) (p : ℕ) → IsBlock m b → IsIn b (p + r.pages - 1) → IsOnPage (Some b) (page_below m (p + r.pages))
  last_on b p block i = let some = starts.good.some in subst (IsLike b) (sym (page_below-page_at m (p + r.pages) (omega arith))) (block (p + r.pages - 1) i)

  pub price_by_edges : (p : ℕ) → IsPermittedStart m r p → price m r p + (saves r.mtype (page_below m p) (page_at m p) + saves r.mtype (page_at m (p + r.pages)) (page_below m (p + r.pages))) ≡ s.entries + (adds (page_below m p) (page_at m p) + adds (page_below m (p + r.pages)) (page_at m (p + r.pages)))
  price_by_edges p permitted = omega (arith, price_is m r Pages p starts.proper starts.good permitted, starts.entries)

  pub few_entries : s.entries ≤ page_count
  few_entries = omega (arith, few_in_map m starts.proper, starts.entries)

  pub start_end : (p : ℕ) → IsPermittedStart m r p → p + r.pages ≤ page_count
  start_end p permitted = permitted_end m r p starts.proper starts.good permitted

  -- the last page of a permitted start is present
  pub last_present : (p : ℕ) → IsPermittedStart m r p → page_at m (p + r.pages - 1) ≡ None → ⊥
  last_present p permitted none = let some = starts.good.some in subst IsConventional none (permitted.conventional (p + r.pages - 1) (omega arith) (omega arith))

  -- ---- the lowest start and the highest one

  is_granule : IsGranule r.granule
  is_granule = starts.good.granule

  pub lowest_most : (q : ℕ) → e.first ≤ q → q % r.granule ≡ 0 → s.lowest ≤ q
  lowest_most q low whole = rw starts.lowest (rounded_least e.first q r.granule is_granule low whole)

  pub lowest_least : e.first ≤ s.lowest
  lowest_least = rw starts.lowest (rounded_at_least e.first r.granule is_granule)

  -- the highest start: a multiple of the granule that is in the entry, and the pages of which end in time
  abbrev pub highest : ℕ
  highest = multiple_to (min (e.first + (e.pages - 1)) (s.end_by - r.pages)) r.granule

  pub highest_is : (n h : ℕ) → n ≡ min (e.first + (e.pages - 1)) (s.end_by - r.pages) → h ≡ multiple_to n r.granule → h ≡ highest
  highest_is n h at is = is ∙ ap (λ k. multiple_to k r.granule) at

  -- a permitted start is no higher
  pub highest_most : (p : ℕ) → IsIn e p → IsPermittedStart m r p → p ≤ highest
  highest_most p i permitted =
      let by = ((starts.end_by p i).0 permitted).1 in
      multiple_to_highest r.granule is_granule (min (e.first + (e.pages - 1)) (s.end_by - r.pages)) p permitted.whole (omega (arith, i.high, by))

  -- it is permitted where some start is
  pub highest_top : (p : ℕ) → IsIn e p → IsPermittedStart m r p → IsTop m r e highest
  highest_top p i permitted =
      let by = ((starts.end_by p i).0 permitted).1 in
      let above = highest_most p i permitted in
      let most = multiple_to_most r.granule is_granule (min (e.first + (e.pages - 1)) (s.end_by - r.pages)) in
      let here : IsIn e highest = record { low = omega (arith, i.low, above); high = omega (arith, i.low, i.high, most) } in
      record {
        in_entry = here;
        permitted = (starts.end_by highest here).1 (multiple_to_whole r.granule is_granule (min (e.first + (e.pages - 1)) (s.end_by - r.pages)), omega (arith, by, most));
        highest = highest_most;
      }

  -- What is known when a start is to be tried, the last page of which is in a block: the lower starts that end where an
  -- entry ends are tried, and the entry's first page, if that is another start.
  pub record HasTried (b : Descriptor) (l : Option (ℕ × ℕ)) (p : ℕ) : Type 0 where
    pub block : IsBlock m b
    pub held : IsIn b (p + r.pages - 1)
    pub found : IsFound m r e l
    pub first : p ≢ e.first → IsTried m r e l e.first
    pub ends : (q : ℕ) → EndsEntry m (q + r.pages) → q < p → IsTried m r e l q
    pub within : IsIn e p
    pub permitted : IsPermittedStart m r p

  pub none_tried : (b : Descriptor) → IsIn e s.lowest → IsPermittedStart m r s.lowest → IsBlock m b → IsIn b (s.lowest + r.pages - 1) → HasTried b None s.lowest
  none_tried b i permitted block held = record {
    block = block;
    held = held;
    found = tt;
    first = λ other _ k. other (omega (arith, lowest_least, lowest_most e.first (omega arith) k.whole));
    ends = λ q ends l j k. omega (arith, l, lowest_most q j.low k.whole);
    within = i;
    permitted = permitted;
  }

  module _ (b : Descriptor) (old new : Option (ℕ × ℕ)) (p : ℕ) (has : HasTried b old p) (found : IsFound m r e new) (tried : IsTried m r e new p) (still : (q : ℕ) → IsTried m r e old q → IsTried m r e new q) where
    some : 0 < r.pages
    some = starts.good.some

    first_too : IsTried m r e new e.first
    first_too = elim (cases_eq p e.first) [ inl same ↦ subst (IsTried m r e new) same tried | inr other ↦ still e.first (has.first other) ]

    ends_too : (q : ℕ) → EndsEntry m (q + r.pages) → q ≤ p → IsTried m r e new q
    ends_too q ends l = elim (cases_eq q p) [ inl same ↦ subst (IsTried m r e new) (sym same) tried | inr other ↦ still q (has.ends q ends (omega arith)) ]

    -- below the highest start, the next multiple of the granule is a start too
    next_start : p ≢ highest → (p + r.granule ≤ highest) × IsPermittedStart m r (p + r.granule)
    next_start lower =
        let top = highest_top p has.within has.permitted in
        let next = next_multiple r.granule is_granule p highest has.permitted.whole top.permitted.whole (omega (arith, lower, highest_most p has.within has.permitted)) in
        let here : IsIn e (p + r.granule) = record { low = omega (arith, has.within.low); high = omega (arith, next, top.in_entry.high) } in
        let by = ((starts.end_by highest top.in_entry).0 top.permitted).1 in
        (next, (starts.end_by (p + r.granule) here).1 (next_whole r.granule is_granule p has.permitted.whole, omega (arith, next, by)))

    -- its last page is present
    pub next_present : p ≢ highest → page_at m (p + r.pages + (r.granule - 1)) ≡ None → ⊥
    next_present lower none =
        let more = some_granule r.granule is_granule in
        last_present (p + r.granule) (next_start lower).1 (subst (λ k. page_at m k ≡ None) (omega (arith, more, some)) none)

    -- the highest start with its last page in the block that holds the last page of the next one
    module _ (c : Descriptor) (n : ℕ) (lower : p ≢ highest) (block : IsBlock m c) (held : IsIn c (p + r.pages + (r.granule - 1))) (at : n ≡ min highest (multiple_to (c.first + c.pages - r.pages) r.granule)) where
      more : 0 < r.granule
      more = some_granule r.granule is_granule

      next_low : p + r.granule ≤ n
      next_low =
          let start = next_start lower in
          omega (arith, at, start.0, multiple_to_highest r.granule is_granule (c.first + c.pages - r.pages) (p + r.granule) start.1.whole (omega (arith, held.high, more)))

      next_high : n + r.pages ≤ c.first + c.pages
      next_high = omega (arith, at, held.high, multiple_to_most r.granule is_granule (c.first + c.pages - r.pages))

      pub next_above : p < n
      next_above = omega (arith, next_low, more)

      next_last : IsIn c (n + r.pages - 1)
      next_last = record { low = omega (arith, held.low, next_low, more, some); high = omega (arith, some, next_high) }

      next_within : IsIn e n
      next_within = let top = highest_top p has.within has.permitted in record { low = omega (arith, has.within.low, next_above); high = omega (arith, at, top.in_entry.high) }

      next_is_whole : n % r.granule ≡ 0
      next_is_whole = elim (cases_lt highest (multiple_to (c.first + c.pages - r.pages) r.granule)) [
        | inl l ↦ subst (λ k. k % r.granule ≡ 0) (omega (arith, at, l)) (highest_top p has.within has.permitted).permitted.whole
        | inr g ↦ subst (λ k. k % r.granule ≡ 0) (omega (arith, at, g)) (multiple_to_whole r.granule is_granule (c.first + c.pages - r.pages))
      ]

      next_permitted : IsPermittedStart m r n
      next_permitted =
          let top = highest_top p has.within has.permitted in
          let by = ((starts.end_by highest top.in_entry).0 top.permitted).1 in
          (starts.end_by n next_within).1 (next_is_whole, omega (arith, at, by))

      pub tried_more : HasTried c new n
      tried_more = record {
        block = block;
        held = next_last;
        found = found;
        first = λ other. first_too;
        ends = λ q ends l. elim (cases_lt p q) [
          | inr g ↦ ends_too q ends g
          | inl above ↦ tried_unless m r e new q (λ i k.
              let next = next_multiple r.granule is_granule p q has.permitted.whole k.whole above in
              inside_block m c (q + r.pages) starts.proper block (omega (arith, some))
              (record { low = omega (arith, held.low, next, more, some); high = omega (arith, next_high, l, some) })
              (record { low = omega (arith, held.low, next, more, some); high = omega (arith, next_high, l) })
              ends)
        ];
        within = next_within;
        permitted = next_permitted;
      }

    -- all is tried
    pub tried_all : p ≡ highest → IsTrueLeast m r e new
    tried_all last =
        least_found m r e new highest starts.proper starts.good starts.entry (highest_top p has.within has.permitted) found first_too (subst (IsTried m r e new) last tried)
        (λ q ends. elim (cases_lt p q) [
          | inr g ↦ ends_too q ends g
          | inl above ↦ tried_unless m r e new q (λ i k. omega (arith, above, last, highest_most q i k))
        ])
