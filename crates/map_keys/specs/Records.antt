-- The bytes of memory descriptors: a record of 48 bytes for each entry of a memory map.
use Rattle.std.specs.Prelude.{◌≡◌, ℕ, ◌+◌, ◌*◌, ◌^◌, ◌<◌, ◌≤◌, List, ◌++◌, flat_map, Option, Some, None}
use Rattle.std.specs.List.{AllByRecursion}
use Rattle.byteorder.specs.Endian.{little_bytes}
use Rattle.page_ranges.specs.declared.ranges.Descriptor.{Descriptor}
use Rattle.page_ranges.specs.MemoryTypes.{page_size, page_count}

-- the bytes of a record
abbrev pub record_size : ℕ
record_size = 48

-- The record of an entry, its numbers little endian: Type and padding, then PhysicalStart,
-- VirtualStart, which is 0, NumberOfPages and Attribute, and 8 bytes more.
abbrev pub record_of : Descriptor → List ℕ
record_of d =
    little_bytes 4 d.mtype ++ little_bytes 4 0 ++ little_bytes 8 (d.first * page_size)
    ++ little_bytes 8 0 ++ little_bytes 8 d.pages ++ little_bytes 8 d.attributes ++ little_bytes 8 0

-- the records of entries, one behind the other
abbrev pub records : List Descriptor → List ℕ
records ds = flat_map record_of ds

-- An entry that a record can spell: at least one page, none past the last, and numbers that fit
-- their fields.
pub record IsRecordEntry (d : Descriptor) : Type 0 where
  pub mtype : d.mtype < 2 ^ 32
  pub some : 0 < d.pages
  pub within : d.first + d.pages ≤ page_count
  pub attributes : d.attributes < 2 ^ 64

-- What is read of the bytes of one record: the entry that they spell, or `None` where they spell
-- none.
abbrev pub ReadsRecord : List ℕ → Option Descriptor → Type 0
ReadsRecord bytes (Some d) = IsRecordEntry d × (record_of d ≡ bytes)
ReadsRecord bytes None = (d : Descriptor) → IsRecordEntry d → ¬ (record_of d ≡ bytes)

-- What is read of bytes: the entries whose records they are, or `None` where they are the records
-- of no entries.
abbrev pub ReadsRecords : List ℕ → Option (List Descriptor) → Type 0
ReadsRecords bytes (Some ds) = AllByRecursion IsRecordEntry ds × (records ds ≡ bytes)
ReadsRecords bytes None =
    (ds : List Descriptor) → AllByRecursion IsRecordEntry ds → ¬ (records ds ≡ bytes)

-- What is read of the records of entries is those entries.
abbrev pub ReadBackLaw : Type 0
ReadBackLaw =
    (ds : List Descriptor) (found : Option (List Descriptor)) → AllByRecursion IsRecordEntry ds
    → ReadsRecords (records ds) found → found ≡ Some ds
