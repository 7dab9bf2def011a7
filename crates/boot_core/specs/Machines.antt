-- The state of the machine that serves the calls.
use Rattle.std.specs.Prelude.{◌≡◌, ℕ, ◌+◌, ◌≤◌, Bool, false, List, [], length, Option, option_map, Vec}
use Rattle.page_ranges.specs.declared.ranges.Descriptor.{Descriptor}
use Rattle.page_ranges.specs.Memory.{IsProperMemory}
use Rattle.page_ranges.specs.MemoryMap.{memory_map}
use Rattle.page_ranges.specs.Runs.{pages_of}
use Rattle.boot_calls.specs.declared.calls.Call.{Call}
use Rattle.boot_replies.specs.Certified.{map_before}
use Rattle.boot_machines.specs.Machines.{MachineValue}
use Rattle.page_services.specs.PageRules.{Book, IsInGranules, certifying, new_book, preparing}
use Rattle.raw_pool.specs.declared.pages.numbered.PoolMemory.{PoolMemory}
use Rattle.pool_services.specs.Extents.{Extent, AreExtents}
use Rattle.pool_services.specs.PoolRules.{HasReservedEnds, OwnsExtents, PoolValue}
use Rattle.protocol_services.specs.Lists.{Lists, no_lists}

-- what the services work on: the memory with its key, the extents of the pool, and the lists of the
-- protocol services
pub record Parts : Type 0 where
  pub book : Book
  pub pools : List Extent
  pub lists : Lists

abbrev pub parts_of : Book → List Extent → Lists → Parts
parts_of book pools lists = record { book = book; pools = pools; lists = lists }

-- the same of a pool that may lie in memory
abbrev pub parts_in : Book → PoolValue → Lists → Parts
parts_in book pool lists = parts_of book pool.extents lists

-- the parts, whether the boot services have ended, and how many calls may still be made
pub record State : Type 0 where
  pub parts : Parts
  pub exited : Bool
  pub calls_left : ℕ

-- the memory map of a state
abbrev pub map_of : State → List Descriptor
map_of s = memory_map s.parts.book.memory

-- the memory map of a state, where certificates are asked for and the reply to the call may carry
-- one
abbrev pub kept_map : {A : Type 0} → Bool → State → Call A → Option (List Descriptor)
kept_map certify s c = map_before certify s.parts.book.granule (map_of s) c

-- what is kept of it
abbrev pub KeepsMap : {A B : Type 0} → Bool → State → Call A → Option (Vec Descriptor B) → Type 0
KeepsMap certify s c kept = option_map (λ entries. entries.items) kept ≡ kept_map certify s c

-- how many calls a machine serves
abbrev pub all_calls : ℕ
all_calls = 0x80000000

-- the most calls that a core can be left
abbrev pub most_calls : ℕ
most_calls = 0x3fffffffffffffff

-- the state of a machine before any call, where certificates are returned
abbrev pub first_state : MachineValue → State
first_state machine = record {
  parts = record {
    book = new_book machine.granule (record { pages = pages_of machine.runs; reserved = 0 });
    pools = [];
    lists = no_lists;
  };
  exited = false;
  calls_left = all_calls;
}

-- a state with another book
abbrev pub with_book : Book → State → State
with_book book s = record {
  parts = parts_of book s.parts.pools s.parts.lists;
  exited = s.exited;
  calls_left = s.calls_left;
}

-- the same state, where certificates are returned or not
abbrev pub certifying_state : Bool → State → State
certifying_state certifies s = with_book (certifying certifies s.parts.book) s

-- the same state, with memory reserved ahead for a number of placements more, and for the frees of
-- what they place
abbrev pub preparing_state : ℕ → State → State
preparing_state placements s = with_book (preparing placements s.parts.book) s

-- the state of a machine before any call, where certificates are returned or not
abbrev pub first_state_with : Bool → MachineValue → State
first_state_with certifies machine = certifying_state certifies (first_state machine)

-- the same, with memory reserved ahead for a number of placements
abbrev pub prepared_state : ℕ → Bool → MachineValue → State
prepared_state placements certifies machine =
    preparing_state placements (first_state_with certifies machine)

-- for how many placements a core on a heap has memory reserved ahead before its first call
abbrev pub prepared_placements : ℕ
prepared_placements = 64

-- a state with another number of calls left
abbrev pub leaving : ℕ → State → State
leaving calls s = record { parts = s.parts; exited = s.exited; calls_left = calls }

-- What the calls so far can have brought, out of the most that there can be: the key is one more
-- than these at most, and there are no more registrations.
pub record FollowsCalls (p : Parts) (calls_left : ℕ) : Type 0 where
  pub key : p.book.key + calls_left ≤ most_calls + 1
  pub registrations : length p.lists.registrations + calls_left ≤ most_calls

-- the key is that of a new machine and there are no registrations, so the most calls may still be
-- made
abbrev pub IsUnused : Parts → Type 0
IsUnused p = FollowsCalls p most_calls

-- The memory is proper, what AllocatePages placed in it fills whole granules, the extents do
-- not overlap, the pages of the pool are theirs, and memory is reserved for the end of each.
pub record AreSound (p : Parts) : Type 0 where
  pub proper : IsProperMemory p.book.memory
  pub granules : IsInGranules p.book
  pub extents : AreExtents p.pools
  pub owned : OwnsExtents p.book.memory p.pools
  pub reserved : HasReservedEnds p.book p.pools

-- what a core is given and keeps: its drivers, and the memory that the machine's pages are, where
-- its pool lies in it
pub record Given (D : Type 0) : Type 0 where
  pub drivers : List D
  pub memory : Option PoolMemory

abbrev pub given_of : {D : Type 0} → List D → Option PoolMemory → Given D
given_of drivers memory = record { drivers = drivers; memory = memory }

-- What has come about so far, and the parts are sound.
abbrev pub KeepsSound : Parts → ℕ → Type 0
KeepsSound p calls_left = FollowsCalls p calls_left × AreSound p

-- the state of the machine, and what the core was given
pub record CoreValue (D : Type 0) : Type 0 where
  pub state : State
  pub given : Given D

-- the lists of a core
abbrev pub lists_of : {D : Type 0} → CoreValue D → Lists
lists_of c = c.state.parts.lists

-- the same core, with memory reserved ahead for a number of placements
abbrev pub prepared : {D : Type 0} → ℕ → CoreValue D → CoreValue D
prepared placements c = record { state = preparing_state placements c.state; given = c.given }

-- the core of a machine before any call, with what it is given
abbrev pub new_core : {D : Type 0} → MachineValue → List D → Option PoolMemory → CoreValue D
new_core machine drivers memory =
    record { state = first_state machine; given = given_of drivers memory }

abbrev pub core_of : {D : Type 0} → Parts → Bool → ℕ → Given D → CoreValue D
core_of parts exited calls_left given =
    record {
      state = record { parts = parts; exited = exited; calls_left = calls_left };
      given = given;
    }
