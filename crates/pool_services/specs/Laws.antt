-- The laws of the pool. Each is the contract of a public function.
use Rattle.std.specs.Prelude.{◌≡◌, ℕ, ◌+◌, ◌-◌, ◌<◌, ◌&&◌, nat_le, nat_lt, Bool, cond, List, [], ◌∷◌, length, drop, replicate, true, Option, Some, None, Result, Ok}
use Rattle.page_ranges.specs.declared.ranges.Run.{Run}
use Rattle.page_ranges.specs.declared.statuses.Status.{Status}
use Rattle.page_ranges.specs.Granules.{IsGranule}
use Rattle.page_ranges.specs.Memory.{Page, IsProperMemory}
use Rattle.page_ranges.specs.Runs.{pages_of, IsValidMachine}
use Rattle.page_services.specs.declared.page_book.Placed.{Placed}
use Rattle.page_services.specs.PageRules.{Book, Choice, AllocatesPages, FreesPages, IsInGranules}
use Rattle.pool_services.specs.Extents.{Extent, AreExtents, tail_at, written}
use Rattle.pool_services.specs.PoolRules.{Answer, AllocatesPool, FillsPool, FreesPool, HasReservedEnds, OwnsExtents, ReadsPool, WritesPool}

-- A machine's own pages are no pool's.
abbrev pub GivenPagesLaw : Type 0
GivenPagesLaw = (rs : List Run) → IsValidMachine rs → OwnsExtents (pages_of rs) []

-- AllocatePages leaves the pages of the pool.
abbrev pub PlacedKeepsPoolLaw : Choice → Type 0 → Type 0
PlacedKeepsPoolLaw Chosen A =
    (b : Book) (es : List Extent) (kind t pages memory : ℕ) (result : Result (Placed A) Status)
    (new : Book) →
    IsProperMemory b.memory → OwnsExtents b.memory es
    → AllocatesPages Chosen b kind t pages memory result new → OwnsExtents new.memory es

-- FreePages leaves the pages of the pool: with those that a call names it frees others, and none of
-- the pool's.
abbrev pub FreedKeepsPoolLaw : Type 0
FreedKeepsPoolLaw =
    (b : Book) (es : List Extent) (address pages : ℕ) (result : Result (Unit {0}) Status)
    (new : Book) →
    IsInGranules b → OwnsExtents b.memory es → FreesPages b address pages result new
    → OwnsExtents new.memory es

-- AllocatePages leaves what memory is reserved for the ends of extents.
abbrev pub PlacedKeepsEndsLaw : Choice → Type 0 → Type 0
PlacedKeepsEndsLaw Chosen A =
    (b : Book) (es : List Extent) (kind t pages memory : ℕ) (result : Result (Placed A) Status)
    (new : Book) →
    HasReservedEnds b es → AllocatesPages Chosen b kind t pages memory result new
    → HasReservedEnds new es

-- FreePages leaves what memory is reserved for the ends of extents.
abbrev pub FreedKeepsEndsLaw : Type 0
FreedKeepsEndsLaw =
    (b : Book) (es : List Extent) (address pages : ℕ) (result : Result (Unit {0}) Status)
    (new : Book) →
    HasReservedEnds b es → FreesPages b address pages result new → HasReservedEnds new es

-- A write leaves the pages of the pool.
abbrev pub WrittenKeepsPoolLaw : Type 0
WrittenKeepsPoolLaw =
    (m : List Page) (es : List Extent) (address : ℕ) (bytes : List ℕ) → OwnsExtents m es
    → OwnsExtents m (written address bytes es)

-- ---- the bytes of the blocks

-- the first of some bytes, if there is one
abbrev pub first_of : List ℕ → Option ℕ
first_of [] = None
first_of (byte ∷ bytes) = Some byte

abbrev pub first_byte : Option (List ℕ) → Option ℕ
first_byte None = None
first_byte (Some bytes) = first_of bytes

-- the byte at an address, if it is one of a live block's
abbrev pub byte_at : ℕ → List Extent → Option ℕ
byte_at address es = first_byte (tail_at address es)

-- whether an address is one of a number from a start on
abbrev pub is_among : ℕ → ℕ → ℕ → Bool
is_among start count address = nat_le start address && nat_lt address (start + count)

-- what is at an address once bytes were laid from a start on over what was there
abbrev pub laid : ℕ → List ℕ → ℕ → Option ℕ → Option ℕ
laid start bytes address old =
    cond (is_among start (length bytes) address) (first_of (drop (address - start) bytes)) old

-- A read gives the bytes at its addresses.
abbrev pub ReadBytesLaw : Type 0
ReadBytesLaw =
    (es : List Extent) (address : ℕ) (old new : List ℕ) (done : Unit {0}) → AreExtents es
    → ReadsPool es address old (Ok done) new →
    (i : ℕ) → i < length old → byte_at (address + i) es ≡ first_of (drop i new)

-- A write lays its bytes at its addresses, and changes no other byte of any block.
abbrev pub WrittenBytesLaw : Type 0
WrittenBytesLaw =
    (es new : List Extent) (address : ℕ) (bytes : List ℕ) (done : Unit {0}) → AreExtents es
    → WritesPool es address bytes (Ok done) new →
    (k : ℕ) → byte_at k new ≡ laid address bytes k (byte_at k es)

-- A new block's bytes are 0 and lay in no block before; AllocatePool changes no other byte.
abbrev pub AllocatedBytesLaw : Choice → Type 0
AllocatedBytesLaw Chosen =
    (b new_b : Book) (es new : List Extent) (t size : ℕ) (answer : Answer) → IsGranule b.granule
    → IsProperMemory b.memory → OwnsExtents b.memory es → AreExtents es
    → AllocatesPool Chosen b es t size (Ok answer) new_b new →
    (k : ℕ) → (byte_at k new ≡ laid answer.0 (replicate size 0) k (byte_at k es))
    × (is_among answer.0 size k ≡ true → byte_at k es ≡ None)

-- A block that is filled has the bytes that it was filled with, which lay in no block before; no
-- other byte changes.
abbrev pub FilledBytesLaw : Choice → Type 0
FilledBytesLaw Chosen =
    (b new_b : Book) (es new : List Extent) (t : ℕ) (bytes : List ℕ) (answer : Answer)
    → IsGranule b.granule → IsProperMemory b.memory → OwnsExtents b.memory es → AreExtents es
    → FillsPool Chosen b es t bytes (Ok answer) new_b new →
    (k : ℕ) → (byte_at k new ≡ laid answer.0 bytes k (byte_at k es))
    × (is_among answer.0 (length bytes) k ≡ true → byte_at k es ≡ None)

-- FreePool takes the bytes of the block at the address away, and changes no other byte.
abbrev pub FreedBytesLaw : Type 0
FreedBytesLaw =
    (b new_b : Book) (es new : List Extent) (address : ℕ) (done : Unit {0}) → AreExtents es
    → FreesPool b es address (Ok done) new_b new →
    (bytes : List ℕ) × (tail_at address es ≡ Some bytes)
    × ((k : ℕ) → byte_at k new ≡ cond (is_among address (length bytes) k) None (byte_at k es))
