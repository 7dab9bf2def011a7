-- What a caller in C asks of one item after the other: the entries of the memory map, and what is
-- open on an interface.
use Rattle.std.specs.Prelude.{ℕ, List, Option}
use Rattle.std.specs.List.{slice_get}
use Rattle.page_ranges.specs.declared.ranges.Descriptor.{Descriptor}
use Rattle.page_ranges.specs.MemoryMap.{memory_map}
use Rattle.guid_handles.specs.HandleTables.{value_at}
use Rattle.open_agents.specs.declared.items.OpenItem.{OpenItem}
use Rattle.c_machines.specs.declared.guids.Guid.{Guid}
use Rattle.c_interface.specs.EfiCores.{EfiCoreValue}
use Rattle.c_interface.specs.Questions.{ReturnsItems, carries_in, open_on}

-- the entry of the memory map at an index, by ascending page
abbrev pub map_entry : {A : Type 0} → EfiCoreValue A → ℕ → Option Descriptor
map_entry c index = slice_get (memory_map c.core.state.parts.book.memory) index

-- the value of the interface of a GUID on a handle
abbrev pub value_on : {A : Type 0} → EfiCoreValue A → ℕ → List ℕ → Option ℕ
value_on c handle guid = value_at c.core.state.parts.lists.handles handle guid

-- the item at an index among those open on an interface, in the order in which they were opened
abbrev pub open_item_at : {A : Type 0} → EfiCoreValue A → ℕ → Guid → ℕ → Option OpenItem
open_item_at c handle guid index = slice_get (open_on c handle guid) index

-- What is open on an interface, in the caller's buffer, and how many items that are.
abbrev pub ListsItems : {A : Type 0} → EfiCoreValue A → ℕ → Guid → ℕ → List OpenItem → ℕ → ℕ
    → List OpenItem → Type 0
ListsItems c handle guid count buffer status new_count new_buffer =
    ReturnsItems (carries_in c handle guid) (open_on c handle guid) count buffer status new_count
    new_buffer
