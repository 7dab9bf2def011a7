-- The rules of AllocatePool, of FreePool and of the pool's bytes, and whose pages the pool's are.
use Rattle.std.specs.Prelude.{◌≡◌, ℕ, ◌≤◌, nat_le, if◌then◌else◌, true, false, cond, List, [], ◌∷◌, length, take, Option, Some, None, Result, Ok, Err}
use Rattle.page_ranges.specs.declared.ranges.Owner.TheVariants.{Pool}
use Rattle.page_ranges.specs.declared.ranges.PageRange.{PageRange}
use Rattle.page_ranges.specs.declared.statuses.Status.{Status}
use Rattle.page_ranges.specs.declared.statuses.Status.TheVariants.{InvalidParameter, OutOfResources}
use Rattle.page_ranges.specs.MemoryTypes.{is_bad_type}
use Rattle.page_ranges.specs.Memory.{Page, page_at, is_in_range}
use Rattle.page_ranges.specs.Runs.{is_same_owner}
use Rattle.placement_certificate.specs.declared.certificates.Request.{Request}
use Rattle.placement_certificate.specs.Certificates.{CertificateValue}
use Rattle.page_services.specs.PageRules.{Book, Choice, given_back, placed_book, pool_request}
use Rattle.raw_pool.specs.declared.pages.numbered.PoolMemory.{PoolMemory}
use Rattle.pool_services.specs.Extents.{Extent, Place, address_of, ended, extent_pages, first_fit, max_size, new_extent, pages_for, place_of, range_of, tail_at, with_extent, with_new_block, without, written}

-- ---- the pool

-- the extents, and the memory that the machine's pages are, where the pool lies in it: a new extent
-- lies there at its pages, so that the bytes of a block are those at its address
pub record PoolValue : Type 0 where
  pub extents : List Extent
  pub memory : Option PoolMemory

abbrev pub pool_in : Option PoolMemory → List Extent → PoolValue
pool_in memory es = record { extents = es; memory = memory }

-- ---- the pages of the pool

-- the type that a page has for the pool, if it is the pool's
abbrev pub pool_type : Option Page → Option ℕ
pool_type None = None
pool_type (Some x) = cond (is_same_owner x.owner Pool) (Some x.mtype) None

-- the type of the extent that has a page
abbrev pub extent_type : ℕ → List Extent → Option ℕ
extent_type k [] = None
extent_type k (e ∷ es) = cond (is_in_range (range_of e) k) (Some e.mtype) (extent_type k es)

-- The pages of the pool in a memory are just those of the extents, each with the type of its
-- extent.
abbrev pub OwnsExtents : List Page → List Extent → Type 0
OwnsExtents m es = (k : ℕ) → pool_type (page_at m k) ≡ extent_type k es

-- memory is reserved in a book for the end of each extent
abbrev pub HasReservedEnds : Book → List Extent → Type 0
HasReservedEnds b es = length es ≤ b.ends

-- If it is reserved for each extent of a pool, it is for each of another.
abbrev pub KeepsEnds : Book → PoolValue → Book → PoolValue → Type 0
KeepsEnds b p new_b new_p = HasReservedEnds b p.extents → HasReservedEnds new_b new_p.extents

-- ---- AllocatePool

-- the request on a machine with a granule for the pages of a new extent for a block of a size, if a
-- block may have that size
abbrev pub extent_request : ℕ → ℕ → ℕ → Option Request
extent_request granule t size =
    if nat_le size max_size then Some (pool_request granule t (pages_for size)) else None

-- the parts of an answer of AllocatePool: the block's address, and the certificate of the place of
-- a new extent
abbrev pub Answer : Type 0
Answer = ℕ × Option CertificateValue

-- Where a block was put that a live extent has room for: at the first fit, and no page changes.
abbrev pub IsPutAt : Place → Book → List Extent → ℕ → Answer → Book → List Extent → Type 0
IsPutAt p b es size answer new_b new_es =
    (answer.0 ≡ address_of p.first p.cell) × (answer.1 ≡ None) × (new_b ≡ b)
    × (new_es ≡ with_new_block p size es)

-- Where a block was put that no live extent has room for: at the first cell of a new extent, at a
-- start that was chosen.
abbrev pub IsPutInNew : Choice → Book → List Extent → ℕ → ℕ → Answer → Book → List Extent → Type 0
IsPutInNew Chosen b es t size answer new_b new_es =
    (start : ℕ) × Chosen b (pool_request b.granule t (pages_for size)) start answer.1
    × (answer.0 ≡ address_of start 0)
    × (new_b
    ≡ placed_book (record { first = start; pages = extent_pages b.granule t size }) t Pool b)
    × (new_es ≡ with_extent (new_extent b.granule start t size) es)

abbrev pub IsPut : Choice → Option Place → Book → List Extent → ℕ → ℕ → Answer → Book → List Extent
    → Type 0
IsPut Chosen (Some p) b es t size answer new_b new_es = IsPutAt p b es size answer new_b new_es
IsPut Chosen None b es t size answer new_b new_es =
    IsPutInNew Chosen b es t size answer new_b new_es

-- What AllocatePool answers, and the book and the extents after it. A refusal leaves both. Where a
-- live extent has room there is no OUT_OF_RESOURCES; else that means that no start is permitted or
-- that memory ran out.
abbrev pub AllocatesPool : Choice → Book → List Extent → ℕ → ℕ → Result Answer Status → Book
    → List Extent → Type 0
AllocatesPool Chosen b es t size (Ok answer) new_b new_es =
    (is_bad_type t ≡ false) × (size ≤ max_size)
    × IsPut Chosen (first_fit t size es) b es t size answer new_b new_es
AllocatesPool Chosen b es t size (Err InvalidParameter) new_b new_es =
    (is_bad_type t ≡ true) × (new_b ≡ b) × (new_es ≡ es)
AllocatesPool Chosen b es t size (Err OutOfResources) new_b new_es =
    (is_bad_type t ≡ false) × (size ≤ max_size → first_fit t size es ≡ None) × (new_b ≡ b)
    × (new_es ≡ es)
AllocatesPool Chosen b es t size (Err status) new_b new_es = ⊥

-- What AllocatePool answers for a block as long as some bytes that is then filled with them, and
-- the book and the extents after it. A refusal leaves both.
abbrev pub FillsPool : Choice → Book → List Extent → ℕ → List ℕ → Result Answer Status → Book
    → List Extent → Type 0
FillsPool Chosen b es t bytes (Ok answer) new_b new_es =
    (placed : List Extent) × AllocatesPool Chosen b es t (length bytes) (Ok answer) new_b placed
    × (new_es ≡ written answer.0 bytes placed)
FillsPool Chosen b es t bytes (Err status) new_b new_es =
    AllocatesPool Chosen b es t (length bytes) (Err status) new_b new_es

-- ---- FreePool

-- the book once an extent ended, if one did
abbrev pub given_if : Option PageRange → Book → Book
given_if None b = b
given_if (Some range) b = given_back range b

-- What FreePool answers, and the book and the extents after it. A refusal leaves both.
-- OUT_OF_RESOURCES means that an extent ends, and that memory for an end ran out and is not reserved.
abbrev pub FreesPool : Book → List Extent → ℕ → Result (Unit {0}) Status → Book → List Extent
    → Type 0
FreesPool b es address (Ok done) new_b new_es =
    (p : Place) × (place_of address es ≡ Some p) × (new_b ≡ given_if (ended p es) b)
    × (new_es ≡ without p es)
FreesPool b es address (Err InvalidParameter) new_b new_es =
    (place_of address es ≡ None) × (new_b ≡ b) × (new_es ≡ es)
FreesPool b es address (Err OutOfResources) new_b new_es =
    (p : Place) × (range : PageRange) × (place_of address es ≡ Some p)
    × (ended p es ≡ Some range) × (b.ends ≡ 0) × (new_b ≡ b) × (new_es ≡ es)
FreesPool b es address (Err status) new_b new_es = ⊥

-- ---- the pool's bytes

-- This number of bytes from an address on belong to one live block.
abbrev pub IsInBlock : ℕ → ℕ → List Extent → Type 0
IsInBlock address count es =
    (bytes : List ℕ) × (tail_at address es ≡ Some bytes) × (count ≤ length bytes)

-- what a read answers, and the buffer after it; a refusal leaves the buffer
abbrev pub ReadsPool : List Extent → ℕ → List ℕ → Result (Unit {0}) Status → List ℕ → Type 0
ReadsPool es address old (Ok done) new =
    (bytes : List ℕ) × (tail_at address es ≡ Some bytes) × (length old ≤ length bytes)
    × (new ≡ take (length old) bytes)
ReadsPool es address old (Err InvalidParameter) new =
    (¬ IsInBlock address (length old) es) × (new ≡ old)
ReadsPool es address old (Err status) new = ⊥

-- what a write answers, and the extents after it; a refusal leaves them
abbrev pub WritesPool : List Extent → ℕ → List ℕ → Result (Unit {0}) Status → List Extent → Type 0
WritesPool es address bytes (Ok done) new =
    IsInBlock address (length bytes) es × (new ≡ written address bytes es)
WritesPool es address bytes (Err InvalidParameter) new =
    (¬ IsInBlock address (length bytes) es) × (new ≡ es)
WritesPool es address bytes (Err status) new = ⊥
