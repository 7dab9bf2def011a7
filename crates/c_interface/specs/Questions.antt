-- What a caller in C learns of the core without a call.
use Rattle.std.specs.Prelude.{◌≡◌, ◌⊎◌, ℕ, ◌*◌, ◌<◌, ◌≤◌, Bool, true, false, List, length, Option, Some, None}
use Rattle.std.specs.Option.{option_map}
use Rattle.std.specs.List.{find, slice_get}
use Rattle.page_ranges.specs.MemoryTypes.{page_size}
use Rattle.page_ranges.specs.Statuses.{status_number}
use Rattle.page_ranges.specs.declared.ranges.Owner.{Owner}
use Rattle.page_ranges.specs.declared.ranges.Owner.TheVariants.{Given, Pages, Pool}
use Rattle.page_ranges.specs.declared.ranges.Run.{Run}
use Rattle.page_ranges.specs.Runs.{runs_of}
use Rattle.page_ranges.specs.declared.statuses.Status.TheVariants.{Success, BufferTooSmall, NotFound}
use Rattle.pool_services.specs.declared.listed.PoolBlock.{PoolBlock}
use Rattle.pool_services.specs.Listed.{blocks_of, is_from}
use Rattle.guid_handles.specs.HandleTables.{carries, holders_of, interfaces_on, numbers}
use Rattle.guid_handles.specs.declared.records.Interface as held
use Rattle.open_agents.specs.Listed.{items_of}
use Rattle.open_agents.specs.OpenItems.{items_on}
use Rattle.open_agents.specs.declared.items.OpenItem.{OpenItem}
use Rattle.open_agents.specs.declared.items.OpenRecord.{OpenRecord}
use Rattle.c_machines.specs.declared.guids.Interface.{Interface}
use Rattle.c_machines.specs.declared.guids.Guid.{Guid}
use Rattle.c_machines.specs.Guids.{guid_in, standard_guid}
use Rattle.c_interface.specs.declared.entries.BlockEntry.{BlockEntry}
use Rattle.c_interface.specs.declared.entries.RunEntry.{RunEntry}
use Rattle.c_interface.specs.declared.entries.OpenEntry.{OpenEntry}
use Rattle.c_interface.specs.Buffers.{front_filled}
use Rattle.c_interface.specs.EfiCores.{EfiCoreValue}

-- What a question leaves in the caller's variable: what is found, or what was there.
abbrev pub ReturnsFound : {X : Type 0} → Option X → X → ℕ → X → Type 0
ReturnsFound (Some found) before status after = (status ≡ status_number Success) × (after ≡ found)
ReturnsFound None before status after = (status ≡ status_number NotFound) × (after ≡ before)

-- ---- as C has them

abbrev pub block_in_c : PoolBlock → BlockEntry
block_in_c b = record { address = b.address; size = b.size; mtype = b.mtype }

-- the number of an owner: 0 for the machine's own and for free pages, 1 for those of
-- AllocatePages, 2 for the pool's
abbrev pub owner_number : Owner → ℕ
owner_number Given = 0
owner_number Pages = 1
owner_number Pool = 2

abbrev pub run_in_c : Run → RunEntry
run_in_c r = record {
  mtype = r.mtype;
  owner = owner_number r.owner;
  physical_start = r.range.first * page_size;
  number_of_pages = r.range.pages;
  attribute = r.attributes;
}

abbrev pub interface_in_c : held.Interface → Interface
interface_in_c i = record { guid = standard_guid i.guid; value = i.value }

abbrev pub open_in_c : OpenRecord → OpenEntry
open_in_c o = record {
  handle = o.handle;
  guid = standard_guid o.guid;
  agent = o.agent;
  controller = o.controller;
  attributes = o.attributes;
  count = o.count;
}

-- ---- what there is

-- the live block with the lowest address at or above one
abbrev pub block_from : {A : Type 0} → EfiCoreValue A → ℕ → Option BlockEntry
block_from c address =
    option_map block_in_c (find (is_from address) (blocks_of c.core.state.parts.pools))

-- the maximal runs of pages of one type, one set of attributes and one owner, by ascending page
abbrev pub page_runs : {A : Type 0} → EfiCoreValue A → List Run
page_runs c = runs_of c.core.state.parts.book.memory

abbrev pub page_run : {A : Type 0} → EfiCoreValue A → ℕ → Option RunEntry
page_run c index = option_map run_in_c (slice_get (page_runs c) index)

-- the live handles, ascending
abbrev pub live_handles : {A : Type 0} → EfiCoreValue A → List ℕ
live_handles c = numbers c.core.state.parts.lists.handles

-- the handles that carry a GUID, ascending
abbrev pub holders : {A : Type 0} → EfiCoreValue A → Guid → List ℕ
holders c guid = holders_of c.core.state.parts.lists.handles (guid_in guid)

-- the handle at an index among the live ones, ascending
abbrev pub handle_at : {A : Type 0} → EfiCoreValue A → ℕ → Option ℕ
handle_at c index = slice_get (live_handles c) index

-- the handle at an index among those that carry a GUID, ascending
abbrev pub holder_at : {A : Type 0} → EfiCoreValue A → Guid → ℕ → Option ℕ
holder_at c guid index = slice_get (holders c guid) index

-- the interface at an index among those on a handle, in order of installation
abbrev pub interface_at : {A : Type 0} → EfiCoreValue A → ℕ → ℕ → Option Interface
interface_at c handle index =
    option_map interface_in_c
    (slice_get (interfaces_on c.core.state.parts.lists.handles handle) index)

-- a live handle carries a GUID
abbrev pub carries_in : {A : Type 0} → EfiCoreValue A → ℕ → Guid → Bool
carries_in c handle guid = carries c.core.state.parts.lists.handles (guid_in guid) handle

-- what is open on an interface, in the order in which it was opened
abbrev pub open_on : {A : Type 0} → EfiCoreValue A → ℕ → Guid → List OpenItem
open_on c handle guid = items_on c.core.state.parts.lists.opens handle (guid_in guid)

-- the item at an index among those that an agent has open, in the order in which it opened them
abbrev pub agent_item_at : {A : Type 0} → EfiCoreValue A → ℕ → ℕ → Option OpenEntry
agent_item_at c agent index =
    option_map open_in_c (slice_get (items_of c.core.state.parts.lists.opens agent) index)

-- ---- lists in the caller's buffer

-- all of a list in the caller's buffer where it has room for them, and how many they are
abbrev pub FillsWith : {X : Type 0} → List X → ℕ → List X → ℕ → List X → Type 0
FillsWith items status buffer new_count new_buffer =
    (new_count ≡ length items)
    × (((length items ≤ length buffer) × (status ≡ status_number Success)
    × (new_buffer ≡ front_filled items buffer))
    ⊎ ((length buffer < length items) × (status ≡ status_number BufferTooSmall)
    × (new_buffer ≡ buffer)))

-- What is open on an interface, in the caller's buffer. A handle that does not carry the GUID is
-- NOT_FOUND.
abbrev pub ReturnsItems : Bool → List OpenItem → ℕ → List OpenItem → ℕ → ℕ → List OpenItem → Type 0
ReturnsItems true items count buffer status new_count new_buffer =
    FillsWith items status buffer new_count new_buffer
ReturnsItems false items count buffer status new_count new_buffer =
    (status ≡ status_number NotFound) × (new_count ≡ count) × (new_buffer ≡ buffer)
