-- Words for the contracts of searches.
use Rattle.std.specs.Prelude.{◌≡◌, ◌↔◌, ℕ, ◌+◌, ◌-◌, ◌%◌, ◌≤◌, false, ◌&&◌, ◌||◌, ◌==◌, nat_lt, List, Option, Some, None, if◌then◌else◌, length, Contains}
use Rattle.std.specs.List.{AllByRecursion}
use Rattle.page_ranges.specs.declared.ranges.Descriptor.{Descriptor}
use Rattle.page_ranges.specs.MemoryTypes.{conventional, is_specific_purpose}
use Rattle.page_ranges.specs.Granules.{rounded}
use Rattle.page_ranges.specs.Memory.{Page, page_below, IsProperMemory}
use Rattle.page_ranges.specs.MemoryMap.{memory_map, IsLike, IsIn, should_be_one}
use Rattle.page_ranges.specs.Cursors.{IsBlockAt}
use Rattle.placement_certificate.specs.declared.certificates.Request.{Request}
use Rattle.placement_certificate.specs.declared.certificates.Bound.{Bound}
use Rattle.placement_certificate.specs.declared.starts.EntryStarts.{EntryStarts}
use Rattle.placement_certificate.specs.Placement.{IsProperRequest, IsPermittedStart, price}
use Rattle.placement_certificate.specs.Laws.{IsStretch, IsNoWorse}

-- of two starts with their prices the one with the lower price, and at equal prices the higher one
abbrev pub better : Option (ℕ × ℕ) → Option (ℕ × ℕ) → Option (ℕ × ℕ)
better None y = y
better (Some x) None = Some x
better (Some (c, t)) (Some (d, u)) =
    if nat_lt d c || (d == c && nat_lt t u) then Some (d, u) else Some (c, t)

-- the best start of some bounds, with its price; or that none of them has a start
abbrev pub IsBestOf : Option (ℕ × ℕ) → List Bound → Type 0
IsBestOf None bs = AllByRecursion (λ b. b.least ≡ None) bs
IsBestOf (Some (count, top)) bs =
    ((b : Bound) × Contains bs b × (b.least ≡ Some (count, top)))
    × AllByRecursion (λ b. IsNoWorse count top b.least) bs

-- ---- the starts in an entry

-- A search for the best start of a proper request in a conventional entry of the map of a proper
-- memory, with how many entries the map has.
pub record IsProperSearch (m : List Page) (r : Request) (count : ℕ) (e : Descriptor) : Type 0 where
  pub proper : IsProperMemory m
  pub good : IsProperRequest r
  pub entries : count ≡ length (memory_map m)
  pub entry : Contains (memory_map m) e
  pub free : e.mtype ≡ conventional

-- what was found in the entry: a permitted start with its price, or nothing yet
abbrev pub IsFound : List Page → Request → Descriptor → Option (ℕ × ℕ) → Type 0
IsFound m r e None = Unit {0}
IsFound m r e (Some (count, top)) = IsIn e top × IsPermittedStart m r top × (price m r top ≡ count)

-- what was found is no worse than a start, if that is a permitted start in the entry
abbrev pub IsTried : List Page → Request → Descriptor → Option (ℕ × ℕ) → ℕ → Type 0
IsTried m r e None q = IsIn e q → ¬ IsPermittedStart m r q
IsTried m r e (Some (count, top)) q =
    IsIn e q → IsPermittedStart m r q → (count ≤ price m r q) × (price m r q ≡ count → q ≤ top)

-- what was found later is no worse than any start that what was found before is no worse than
abbrev pub StaysTried : List Page → Request → Descriptor → Option (ℕ × ℕ) → Option (ℕ × ℕ) → Type 0
StaysTried m r e old new = (q : ℕ) → IsTried m r e old q → IsTried m r e new q

-- a block of available pages
abbrev pub IsAvailableBlock : Descriptor → Type 0
IsAvailableBlock b = (b.mtype ≡ conventional) × (is_specific_purpose b.attributes ≡ false)

-- the stretch of available pages that an entry lies in ends at a page number
pub record IsStop (m : List Page) (e : Descriptor) (stop : ℕ) : Type 0 where
  pub within : e.first + e.pages ≤ stop
  pub stretch : IsStretch m e.first stop

-- the highest multiple of a granule that is at most a number
abbrev pub multiple_to : ℕ → ℕ → ℕ
multiple_to number granule = number - number % granule

-- a start in the entry is permitted just where it is a multiple of the granule and its pages end by
-- a page number
abbrev pub PermitsUpTo : List Page → Request → Descriptor → ℕ → Type 0
PermitsUpTo m r e end =
    (q : ℕ) → IsIn e q → IsPermittedStart m r q ↔ ((q % r.granule ≡ 0) × (q + r.pages ≤ end))

-- a page has the type and attributes of a block, or is absent where there is none
abbrev pub IsOnPage : Option Descriptor → Option Page → Type 0
IsOnPage None o = o ≡ None
IsOnPage (Some e) o = IsLike e o

-- What a search knows of the starts in an entry: a conventional one of the map of a proper memory,
-- with how many entries there are, the first multiple of the granule from the entry's first page
-- on, up to where starts are permitted, and what the page below it and one other page are.
pub record AreStartsIn (m : List Page) (s : EntryStarts) : Type 0 where
  pub proper : IsProperMemory m
  pub good : IsProperRequest s.request
  pub entry : Contains (memory_map m) s.entry
  pub entries : s.entries ≡ length (memory_map m)
  pub lowest : s.lowest ≡ rounded s.entry.first s.request.granule
  pub end_by : PermitsUpTo m s.request s.entry s.end_by
  pub below : IsOnPage s.below (page_below m s.entry.first)
  pub known : IsBlockAt m s.known_page s.known_block

-- ---- a list of entries

-- the next entry, if there is one, begins where an entry ends or above, and should not be one with
-- it
abbrev pub MayStandBelow : Descriptor → Option Descriptor → Type 0
MayStandBelow d None = Unit {0}
MayStandBelow d (Some e) = (d.first + d.pages ≤ e.first) × (should_be_one d e ≡ false)
