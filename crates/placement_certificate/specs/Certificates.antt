-- When a certificate is true.
use Rattle.std.specs.Prelude.{◌≡◌, ℕ, ◌==◌, List, filter, Option, Some, None}
use Rattle.std.specs.List.{AllZip}
use Rattle.page_ranges.specs.declared.ranges.Descriptor.{Descriptor}
use Rattle.page_ranges.specs.MemoryTypes.{conventional}
use Rattle.page_ranges.specs.Memory.{Page}
use Rattle.page_ranges.specs.MemoryMap.{memory_map, IsIn}
use Rattle.placement_certificate.specs.declared.certificates.Request.{Request}
use Rattle.placement_certificate.specs.declared.certificates.Bound.{Bound}
use Rattle.placement_certificate.specs.Placement.{IsPermittedStart, price, IsBestStart, IsBestIn}

-- what a certificate says: its bounds, and the start that it gives as best
pub record CertificateValue : Type 0 where
  pub bounds : List Bound
  pub answer : ℕ

-- What a bound says of the permitted starts in its entry: the best of them is `top`, at a price of
-- `count`; or there is none.
abbrev pub IsTrueLeast : List Page → Request → Descriptor → Option (ℕ × ℕ) → Type 0
IsTrueLeast m r e (Some (count, top)) = IsBestIn m r e top × (price m r top ≡ count)
IsTrueLeast m r e None = (p : ℕ) → IsIn e p → ¬ IsPermittedStart m r p

-- A true bound of an entry has the entry's first page and pages, and says what is true of its
-- starts.
pub record IsTrueBound (m : List Page) (r : Request) (e : Descriptor) (b : Bound) : Type 0 where
  pub first : b.first ≡ e.first
  pub pages : b.pages ≡ e.pages
  pub least : IsTrueLeast m r e b.least

-- the entries of the map that are conventional
abbrev pub conventional_entries : List Page → List Descriptor
conventional_entries m = filter (λ e. e.mtype == conventional) (memory_map m)

-- A true certificate has one true bound for each conventional entry, in their order, and its answer
-- is the best start.
pub record IsTrueCertificate (m : List Page) (r : Request) (c : CertificateValue) : Type 0 where
  pub bounds : AllZip (IsTrueBound m r) (conventional_entries m) c.bounds
  pub answer : IsBestStart m r c.answer
