-- The laws that the search for the best start rests on.
use Rattle.std.specs.Prelude.{◌≡◌, ◌⊎◌, ◌↔◌, ℕ, ◌+◌, ◌%◌, ◌<◌, ◌≤◌, Bool, true, false, not, ◌&&◌, ◌==◌, List, length, count_by, Contains, Option, Some, None, if◌then◌else◌}
use Rattle.std.specs.List.{AllZip, AllByRecursion}
use Rattle.page_ranges.specs.declared.ranges.Descriptor.{Descriptor}
use Rattle.page_ranges.specs.MemoryTypes.{attributes_as}
use Rattle.page_ranges.specs.Memory.{Page, page_at, page_below, IsAscending, IsProperMemory}
use Rattle.page_ranges.specs.MemoryMap.{memory_map, IsIn}
use Rattle.placement_certificate.specs.declared.certificates.Request.{Request}
use Rattle.placement_certificate.specs.declared.certificates.Bound.{Bound}
use Rattle.placement_certificate.specs.Placement.{IsProperRequest, IsPermittedStart, IsAvailable, price, IsBestStart, IsBestIn}
use Rattle.placement_certificate.specs.Certificates.{CertificateValue, IsTrueBound, conventional_entries, IsTrueCertificate}

-- both pages are present, with equal type and attributes
abbrev pub are_alike : Option Page → Option Page → Bool
are_alike (Some x) (Some y) = (x.mtype == y.mtype) && (x.attributes == y.attributes)
are_alike x y = false

-- the page just below is not like it
abbrev pub starts_entry : List Page → Page → Bool
starts_entry m x = not (are_alike (page_below m x.number) (Some x))

-- The map has one entry for each present page with no equal page just below it.
abbrev pub MapLengthLaw : Type 0
MapLengthLaw = (m : List Page) → IsAscending m → length (memory_map m) ≡ count_by (starts_entry m) m

-- An edge has equal pages below and above it just where it is inside an entry.
abbrev pub InsideLaw : Type 0
InsideLaw =
    (m : List Page) (k : ℕ) → IsAscending m → (are_alike (page_below m k) (page_at m k) ≡ true)
    ↔ ((e : Descriptor) × Contains (memory_map m) e × (e.first < k) × (k < e.first + e.pages))

-- what an edge adds to the price: 1 where it is inside an entry
abbrev pub adds : Option Page → Option Page → ℕ
adds below above = if are_alike below above then 1 else 0

-- what an edge saves: 1 where the page outside it is of the type t, and shares its entry with the
-- page inside once that has the type t too
abbrev pub saves : ℕ → Option Page → Option Page → ℕ
saves t (Some x) (Some y) =
    if (x.mtype == t) && (x.attributes == attributes_as t y.attributes) then 1 else 0
saves t x y = 0

-- The price of a permitted start is the map's length, with what its two edges add and without what
-- they save.
abbrev pub PriceLaw : Type 0
PriceLaw =
    (m : List Page) (r : Request) (p : ℕ) → IsProperMemory m → IsProperRequest r
    → IsPermittedStart m r p →
    let end = p + r.pages in
    price m r p
    + (saves r.mtype (page_below m p) (page_at m p) + saves r.mtype (page_at m end)
    (page_below m end))
    ≡ length (memory_map m)
    + (adds (page_below m p) (page_at m p) + adds (page_below m end) (page_at m end))

-- With a granule of 1, an entry that holds a permitted start may also be placed in from its first
-- page on, and that makes the map longer by 1 at most.
abbrev pub FirstPageLaw : Type 0
FirstPageLaw =
    (m : List Page) (r : Request) (e : Descriptor) (p : ℕ) → r.granule ≡ 1 → IsProperMemory m
    → IsProperRequest r → Contains (memory_map m) e → IsIn e p → IsPermittedStart m r p →
    IsPermittedStart m r e.first × (price m r e.first ≤ length (memory_map m) + 1)

-- The pages from first on are available up to stop, and the page at stop is not.
pub record IsStretch (m : List Page) (first stop : ℕ) : Type 0 where
  pub all : (k : ℕ) → first ≤ k → k < stop → IsAvailable (page_at m k)
  pub stops : ¬ IsAvailable (page_at m stop)

-- In a stretch a start is permitted just where it is a multiple of the granule and its pages end by
-- the stretch's end and by the limit.
abbrev pub StretchLaw : Type 0
StretchLaw =
    (m : List Page) (r : Request) (first stop p : ℕ) → IsStretch m first stop → first ≤ p
    → p < stop → IsPermittedStart m r p
    ↔ ((p % r.granule ≡ 0) × (p + r.pages ≤ r.limit) × (p + r.pages ≤ stop))

-- some entry ends at the number
abbrev pub EndsEntry : List Page → ℕ → Type 0
EndsEntry m k = (e : Descriptor) × Contains (memory_map m) e × (k ≡ e.first + e.pages)

-- A permitted start is its entry's first page, or ends where an entry ends, or costs the map's
-- length plus 2.
abbrev pub EdgesLaw : Type 0
EdgesLaw =
    (m : List Page) (r : Request) (e : Descriptor) (p : ℕ) → IsProperMemory m → IsProperRequest r
    → Contains (memory_map m) e → IsIn e p → IsPermittedStart m r p →
    (p ≡ e.first) ⊎ EndsEntry m (p + r.pages) ⊎ (price m r p ≡ length (memory_map m) + 2)

-- no permitted start in the entry is higher
abbrev pub IsHighestIn : List Page → Request → Descriptor → ℕ → Type 0
IsHighestIn m r e p = (q : ℕ) → IsIn e q → IsPermittedStart m r q → q ≤ p

-- the entry's first page, a start that ends where an entry ends, or the highest permitted start in
-- the entry
abbrev pub IsPlace : List Page → Request → Descriptor → ℕ → Type 0
IsPlace m r e p = (p ≡ e.first) ⊎ EndsEntry m (p + r.pages) ⊎ IsHighestIn m r e p

-- The best start in an entry is at one of these places.
abbrev pub BlockEndsLaw : Type 0
BlockEndsLaw =
    (m : List Page) (r : Request) (e : Descriptor) (p : ℕ) → IsProperMemory m → IsProperRequest r
    → Contains (memory_map m) e → IsBestIn m r e p → IsPlace m r e p

-- With a granule of 1 it is the entry's first page, or ends where an entry ends, since the first
-- page is permitted where any start in the entry is.
abbrev pub FirstOrEndLaw : Type 0
FirstOrEndLaw =
    (m : List Page) (r : Request) (e : Descriptor) (p : ℕ) → r.granule ≡ 1 → IsProperMemory m
    → IsProperRequest r → Contains (memory_map m) e → IsBestIn m r e p → (p ≡ e.first)
    ⊎ EndsEntry m (p + r.pages)

-- The best start in an entry makes the map longer by 2 at most, and with a granule of 1 by 1 at
-- most.
abbrev pub BestPriceLaw : Type 0
BestPriceLaw =
    (m : List Page) (r : Request) (e : Descriptor) (p : ℕ) → IsProperMemory m → IsProperRequest r
    → Contains (memory_map m) e → IsBestIn m r e p →
    (price m r p ≤ length (memory_map m) + 2)
    × (r.granule ≡ 1 → price m r p ≤ length (memory_map m) + 1)

-- A permitted start in an entry is the best there if no permitted start at one of these places is
-- better.
abbrev pub CandidatesLaw : Type 0
CandidatesLaw =
    (m : List Page) (r : Request) (e : Descriptor) (p : ℕ) → IsProperMemory m → IsProperRequest r
    → Contains (memory_map m) e → IsIn e p → IsPermittedStart m r p →
    ((q : ℕ) → IsIn e q → IsPermittedStart m r q → IsPlace m r e q → (price m r p ≤ price m r q)
    × (price m r q ≡ price m r p → q ≤ p)) → IsBestIn m r e p

-- Two true certificates of one request in one memory are equal, and their answer is permitted.
abbrev pub OneCertificateLaw : Type 0
OneCertificateLaw =
    (m : List Page) (r : Request) (c d : CertificateValue) → IsTrueCertificate m r c
    → IsTrueCertificate m r d → (c ≡ d) × IsPermittedStart m r c.answer

-- Memories with the same map have the same true certificates.
abbrev pub MapDecidesLaw : Type 0
MapDecidesLaw =
    (m n : List Page) (r : Request) (c : CertificateValue) → IsProperMemory m → IsProperMemory n
    → IsProperRequest r → memory_map m ≡ memory_map n → IsTrueCertificate m r c
    → IsTrueCertificate n r c

-- the best start of an entry, at a price of count, is no worse than the best start of another entry
abbrev pub IsNoWorse : ℕ → ℕ → Option (ℕ × ℕ) → Type 0
IsNoWorse count top (Some (c, t)) = (count ≤ c) × (c ≡ count → t ≤ top)
IsNoWorse count top None = Unit {0}

-- Of true bounds, the best one has the best start; and where none has a start, none is permitted.
abbrev pub BestBoundLaw : Type 0
BestBoundLaw =
    (m : List Page) (r : Request) (bs : List Bound) → IsProperMemory m → IsProperRequest r
    → AllZip (IsTrueBound m r) (conventional_entries m) bs →
    ((b : Bound) (count top : ℕ) → Contains bs b → b.least ≡ Some (count, top)
    → AllByRecursion (λ c. IsNoWorse count top c.least) bs → IsBestStart m r top)
    × (AllByRecursion (λ c. c.least ≡ None) bs → (p : ℕ) → ¬ IsPermittedStart m r p)
