-- Where a request may be placed, what the memory is then, and which start is best.
use Rattle.std.specs.Prelude.{◌≡◌, ℕ, ◌+◌, ◌%◌, ◌<◌, ◌≤◌, false, List, length, Option, Some, None}
use Rattle.page_ranges.specs.declared.ranges.Descriptor.{Descriptor}
use Rattle.page_ranges.specs.declared.ranges.Owner.{Owner}
use Rattle.page_ranges.specs.declared.ranges.Owner.TheVariants.{Pages}
use Rattle.page_ranges.specs.declared.ranges.PageRange.{PageRange}
use Rattle.page_ranges.specs.MemoryTypes.{is_bad_type, is_specific_purpose}
use Rattle.page_ranges.specs.Granules.{IsGranule, granule_for}
use Rattle.page_ranges.specs.Memory.{Page, IsConventional, AllInRange, retyped}
use Rattle.page_ranges.specs.MemoryMap.{memory_map, IsIn}
use Rattle.placement_certificate.specs.declared.certificates.Request.{Request}

-- The request is for at least one page, of a type that requests may name. Its granule is one that
-- the type has on some machine, and its pages fill whole granules.
pub record IsProperRequest (r : Request) : Type 0 where
  pub some : 0 < r.pages
  pub good : is_bad_type r.mtype ≡ false
  pub granule : IsGranule r.granule
  pub typed : granule_for r.mtype r.granule ≡ r.granule
  pub filled : r.pages % r.granule ≡ 0

-- its granule is one that its type has on some machine, and its pages fill whole granules
abbrev pub FillsGranules : Request → Type 0
FillsGranules r =
    IsGranule r.granule × (granule_for r.mtype r.granule ≡ r.granule) × (r.pages % r.granule ≡ 0)

-- the pages of a request that is placed at a start
abbrev pub range_at : Request → ℕ → PageRange
range_at r p = record { first = p; pages = r.pages }

-- the page is not of specific purpose: its bit EFI_MEMORY_SP is off
abbrev pub IsOrdinary : Option Page → Type 0
IsOrdinary None = ⊥
IsOrdinary (Some x) = is_specific_purpose x.attributes ≡ false

-- A permitted start: it is a multiple of the granule, the pages from there on end by the limit, and
-- all of them are conventional and of no specific purpose. All that is said of permission is said
-- here.
pub record IsPermittedStart (m : List Page) (r : Request) (p : ℕ) : Type 0 where
  pub whole : p % r.granule ≡ 0
  pub within : p + r.pages ≤ r.limit
  pub conventional : AllInRange m (range_at r p) IsConventional
  pub ordinary : AllInRange m (range_at r p) IsOrdinary

-- a page that may be in such a range
abbrev pub IsAvailable : Option Page → Type 0
IsAvailable o = IsConventional o × IsOrdinary o

-- the memory after a placement: those pages have the request's type and their new owner
abbrev pub after_placement : List Page → Request → Owner → ℕ → List Page
after_placement m r o p = retyped (range_at r p) r.mtype o m

-- the price of a start: how many entries the memory map has after the placement
abbrev pub price : List Page → Request → ℕ → ℕ
price m r p = length (memory_map (after_placement m r Pages p))

-- The best start: the highest of the permitted starts at the lowest price.
pub record IsBestStart (m : List Page) (r : Request) (p : ℕ) : Type 0 where
  pub permitted : IsPermittedStart m r p
  pub lowest : (q : ℕ) → IsPermittedStart m r q → price m r p ≤ price m r q
  pub highest : (q : ℕ) → IsPermittedStart m r q → price m r q ≡ price m r p → q ≤ p

-- The best start in an entry: the same among the permitted starts there.
pub record IsBestIn (m : List Page) (r : Request) (e : Descriptor) (p : ℕ) : Type 0 where
  pub in_entry : IsIn e p
  pub permitted : IsPermittedStart m r p
  pub lowest : (q : ℕ) → IsIn e q → IsPermittedStart m r q → price m r p ≤ price m r q
  pub highest : (q : ℕ) → IsIn e q → IsPermittedStart m r q → price m r q ≡ price m r p → q ≤ p
