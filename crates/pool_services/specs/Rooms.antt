-- What is kept of the extents of a group beside them, so that room, or the extent of an address, is
-- found soon.
use Rattle.std.specs.Prelude.{◌≡◌, ℕ, ◌+◌, ◌%◌, ◌≤◌, ◌<◌, ◌==◌, ◌&&◌, nat_le, slice_index, slice_index_or, Bool, true, false, List, ◌++◌, drop, length, set, take, Option, Some, None}
use Rattle.raw_pool.specs.Blocks.{longest_run}
use Rattle.pool_services.specs.declared.rooms.Room.{Room}
use Rattle.pool_services.specs.Extents.{Extent, cells_in}

-- what is kept of an extent: its first page, its type, and how many cells its longest run of free
-- cells has
abbrev pub room_of : Extent → Room
room_of e =
    record { first = e.first; mtype = e.mtype; longest = longest_run (cells_in e.pages) 0 e.blocks }

-- whether a room is of a type and has a number of cells
abbrev pub serves : ℕ → ℕ → Room → Bool
serves t cells r = (r.mtype == t) && nat_le cells r.longest

-- the room at an index
abbrev pub IsRoomAt : List Room → ℕ → Room → Type 0
IsRoomAt rs i r = (i < length rs) × (r ≡ slice_index_or rs i r)

-- the class of a type, of 16
abbrev pub class_of : ℕ → ℕ
class_of t = t % 16

-- no room has more cells than the bound of its class
abbrev pub AreBounded : List Room → List ℕ → Type 0
AreBounded rs bounds =
    (i : ℕ) (r : Room) → IsRoomAt rs i r → r.longest ≤ slice_index bounds (class_of r.mtype)

-- no room of a class has more cells than a number
abbrev pub BoundsClass : List Room → ℕ → ℕ → Type 0
BoundsClass rs class most =
    (i : ℕ) (r : Room) → IsRoomAt rs i r → class_of r.mtype ≡ class → r.longest ≤ most

-- no bound is lower than it was
abbrev pub KeepsBounds : List ℕ → List ℕ → Type 0
KeepsBounds old new = (k : ℕ) → slice_index old k ≤ slice_index new k

-- the bound of a room's class is not too low for it, and no bound is lower than it was
abbrev pub IsRaised : Room → List ℕ → List ℕ → Type 0
IsRaised r old new = KeepsBounds old new × (r.longest ≤ slice_index new (class_of r.mtype))

-- none of the rooms below an index serves
abbrev pub NoneServes : ℕ → ℕ → List Room → ℕ → Type 0
NoneServes t cells rs end =
    (k : ℕ) (q : Room) → k < end → IsRoomAt rs k q → serves t cells q ≡ false

-- the first room that serves
abbrev pub IsFirstServing : ℕ → ℕ → List Room → Option ℕ → Type 0
IsFirstServing t cells rs None = NoneServes t cells rs (length rs)
IsFirstServing t cells rs (Some i) =
    (r : Room) × IsRoomAt rs i r × (serves t cells r ≡ true) × NoneServes t cells rs i

-- the rooms once the longest run of the one at an index has a number of cells
abbrev pub HasLongestAt : ℕ → ℕ → List Room → List Room → Type 0
HasLongestAt i cells rs new =
    (r : Room) × IsRoomAt rs i r
    × (new ≡ set rs i (record { first = r.first; mtype = r.mtype; longest = cells }))

-- the rooms without the one at an index
abbrev pub without_room : ℕ → List Room → List Room
without_room at rs = take at rs ++ drop (at + 1) rs
