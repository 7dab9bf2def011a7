-- What lies beside a start, and what is kept from one search to the next.
use Rattle.std.specs.Prelude.{◌≡◌, ℕ, ◌+◌, ◌-◌, ◌<◌, List, Option}
use Rattle.std.specs.List.{AllZip}
use Rattle.page_ranges.specs.declared.ranges.Descriptor.{Descriptor}
use Rattle.page_ranges.specs.Memory.{Page, page_below}
use Rattle.page_ranges.specs.MemoryMap.{IsIn}
use Rattle.page_ranges.specs.Cursors.{IsBlock}
use Rattle.placement_certificate.specs.declared.certificates.Bound.{Bound}
use Rattle.placement_certificate.specs.declared.certificates.Request.{Request}
use Rattle.placement_certificate.specs.declared.starts.EntryStarts.{EntryStarts}
use Rattle.placement_certificate.specs.Certificates.{IsTrueBound, conventional_entries}
use Rattle.placement_certificate.specs.Laws.{IsStretch, saves}
use Rattle.placement_certificate.specs.Search.{AreStartsIn, IsOnPage}

-- bounds are true, one for each conventional entry of a memory's map, in their order
abbrev pub AreTrueBounds : List Page → Request → List Bound → Type 0
AreTrueBounds m r bounds = AllZip (IsTrueBound m r) (conventional_entries m) bounds

-- two cursors are over one memory, and the last stretch that was met lies between two page numbers
abbrev pub KnowsStretch : List Page → List Page → ℕ → ℕ → Type 0
KnowsStretch ends sides first stop = (ends ≡ sides) × (first < stop → IsStretch sides first stop)

-- a number is what the edge between a page outside a range and one inside it saves
abbrev pub IsSavedAt : ℕ → Option Descriptor → Option Descriptor → ℕ → Type 0
IsSavedAt mtype outside inside n =
    (x y : Option Page) → IsOnPage outside x → IsOnPage inside y → n ≡ saves mtype x y

-- a block has the page just below a start in an entry
abbrev pub IsBelowStart : EntryStarts → ℕ → Option Descriptor → Type 0
IsBelowStart s start block =
    (m : _) → AreStartsIn m s → IsIn s.entry start → IsOnPage block (page_below m start)

-- the last page of the lowest start in an entry
abbrev pub last_of_lowest : EntryStarts → ℕ
last_of_lowest s = s.lowest + s.request.pages - 1

-- a block of a memory has a page
abbrev pub IsBlockWith : List Page → ℕ → Descriptor → Type 0
IsBlockWith m page b = IsBlock m b × IsIn b page
