-- The entries of a memory map, made by one run after the other.
use Rattle.std.specs.Prelude.{ℕ, ◌+◌, ◌*◌, ◌<◌, ◌≤◌, List, [], ◌∷◌, ◌++◌, length, drop, if◌then◌else◌}
use Rattle.page_ranges.specs.declared.ranges.Descriptor.{Descriptor}
use Rattle.page_ranges.specs.declared.ranges.Run.{Run}
use Rattle.page_ranges.specs.MemoryTypes.{page_count}
use Rattle.page_ranges.specs.MemoryMap.{should_be_one}
use Rattle.descriptor_table.specs.Tables.{entry_of}
use Rattle.map_keys.specs.Records.{record_size, records}

-- an entry with the pages of a run that goes on in it
abbrev pub entry_with_run : Descriptor → Run → Descriptor
entry_with_run d r = record d { pages = d.pages + r.range.pages }

-- the entries that are whole once runs have come behind an entry
abbrev pub whole_entries : Descriptor → List Run → List Descriptor
whole_entries d [] = []
whole_entries d (r ∷ rs) =
    if should_be_one d (entry_of r)
    then whole_entries (entry_with_run d r) rs
    else d ∷ whole_entries (entry_of r) rs

-- the entry that is not whole yet
abbrev pub last_entry : Descriptor → List Run → Descriptor
last_entry d [] = d
last_entry d (r ∷ rs) =
    if should_be_one d (entry_of r) then last_entry (entry_with_run d r) rs
    else last_entry (entry_of r) rs

-- an entry that begins among all pages, and ends there
abbrev pub IsAmongPages : Descriptor → Type 0
IsAmongPages d = (d.first < page_count) × (d.first + d.pages ≤ page_count)

-- bytes with the records of entries in their front
abbrev pub with_records : List Descriptor → List ℕ → List ℕ
with_records ds bytes = records ds ++ drop (record_size * length ds) bytes
