-- The open items, in the order in which they were made, and what changes them.
use Rattle.std.specs.Prelude.{ℕ, ◌+◌, ◌-◌, ◌^◌, min, ◌==◌, ◌&&◌, ◌||◌, not, Bool, cond, List, [], ◌∷◌, ◌++◌, map}
use Rattle.std.specs.List.{filter, list_any}
use Rattle.guid_handles.specs.HandleTables.{same_guid}
use Rattle.guid_handles.specs.declared.records.Pair.{Pair}
use Rattle.open_agents.specs.declared.items.OpenRecord.{OpenRecord}
use Rattle.open_agents.specs.declared.items.OpenItem.{OpenItem}

-- ---- attributes

abbrev pub is_for_driver : ℕ → Bool
is_for_driver a = (a == 0x10) || (a == 0x30)

abbrev pub is_exclusive : ℕ → Bool
is_exclusive a = (a == 0x20) || (a == 0x30)

-- ---- what an item is about

-- an item is on the interface of a GUID on a handle
abbrev pub is_open_on : ℕ → List ℕ → OpenRecord → Bool
is_open_on n guid o = (o.handle == n) && same_guid o.guid guid

-- an item is of a controller and an agent
abbrev pub is_of_pair : ℕ → ℕ → OpenRecord → Bool
is_of_pair controller agent o = (o.agent == agent) && (o.controller == controller)

-- an item is equal to what a call asks for
abbrev pub is_equal_item : ℕ → List ℕ → ℕ → ℕ → ℕ → OpenRecord → Bool
is_equal_item n guid agent controller a o =
    is_open_on n guid o && (is_of_pair controller agent o && (o.attributes == a))

-- an item makes its agent manage a handle: it is for a driver, and the handle is its controller
abbrev pub manages : ℕ → OpenRecord → Bool
manages n o = is_for_driver o.attributes && (o.controller == n)

-- an item is of an agent, with some attributes, on an interface
abbrev pub is_open_with : ℕ → List ℕ → ℕ → ℕ → OpenRecord → Bool
is_open_with n guid agent a o = is_open_on n guid o && ((o.agent == agent) && (o.attributes == a))

-- an item is for a driver, on an interface
abbrev pub is_driving : ℕ → List ℕ → OpenRecord → Bool
is_driving n guid o = is_open_on n guid o && is_for_driver o.attributes

-- an item is for a driver or exclusive, on an interface
abbrev pub is_holding : ℕ → List ℕ → OpenRecord → Bool
is_holding n guid o =
    is_open_on n guid o && (is_for_driver o.attributes || is_exclusive o.attributes)

-- an item names a handle
abbrev pub names : ℕ → OpenRecord → Bool
names n o = (o.handle == n) || ((o.agent == n) || (o.controller == n))

-- ---- what is listed

abbrev pub item_of : OpenRecord → OpenItem
item_of o =
    record {
      agent = o.agent;
      controller = o.controller;
      attributes = o.attributes;
      count = o.count;
    }

-- the items of an interface, in the order in which they were made
abbrev pub items_on : List OpenRecord → ℕ → List ℕ → List OpenItem
items_on opens n guid = map item_of (filter (is_open_on n guid) opens)

-- a driver has an interface open
abbrev pub is_driven : List OpenRecord → ℕ → List ℕ → Bool
is_driven opens n guid = list_any (λ i. is_for_driver i.attributes) (items_on opens n guid)

-- an open for a child, or an exclusive one of no driver, keeps its interface
abbrev pub keeps : ℕ → Bool
keeps a = (a == 0x8) || (a == 0x20)

-- an item keeps an interface
abbrev pub is_keeping : ℕ → List ℕ → OpenRecord → Bool
is_keeping n guid o = is_open_on n guid o && keeps o.attributes

abbrev pub is_kept : List OpenRecord → ℕ → List ℕ → Bool
is_kept opens n guid = list_any (λ i. keeps i.attributes) (items_on opens n guid)

-- the controller and the agent of an item
abbrev pub manager_of : OpenRecord → Pair
manager_of o = record { controller = o.controller; agent = o.agent }

-- the controller and the agent of each item that makes the agent manage a handle
abbrev pub managers_of : List OpenRecord → ℕ → List Pair
managers_of opens n = map manager_of (filter (manages n) opens)

-- an item makes its agent manage one of some handles
abbrev pub manages_any : List ℕ → OpenRecord → Bool
manages_any ns o = is_for_driver o.attributes && list_any (λ n. o.controller == n) ns

-- the controller and the agent of each item that makes the agent manage one of some handles
abbrev pub managers_of_any : List OpenRecord → List ℕ → List Pair
managers_of_any opens ns = map manager_of (filter (manages_any ns) opens)

-- ---- what changes

-- the end of counts: an EFI_OPEN_PROTOCOL_INFORMATION_ENTRY has 32 bits for one
abbrev pub last_count : ℕ
last_count = 2 ^ 32 - 1

-- a count that rises by 1, but stays at its end
abbrev pub once_more : ℕ → ℕ
once_more count = min (count + 1) last_count

abbrev pub counted : (OpenRecord → Bool) → OpenRecord → OpenRecord
counted is_equal o = cond (is_equal o) (record o { count = once_more o.count }) o

-- an equal item's count rises
abbrev pub with_count : ℕ → List ℕ → ℕ → ℕ → ℕ → List OpenRecord → List OpenRecord
with_count n guid agent controller a opens =
    map (counted (is_equal_item n guid agent controller a)) opens

-- An equal item's count rises; without one there is a new item of count 1, but none for agent 0.
abbrev pub with_item : ℕ → List ℕ → ℕ → ℕ → ℕ → List OpenRecord → List OpenRecord
with_item n guid agent controller a opens =
    cond (list_any (is_equal_item n guid agent controller a) opens)
    (with_count n guid agent controller a opens)
    (cond (agent == 0) opens
    (opens
    ++ record {
      handle = n;
      guid = guid;
      agent = agent;
      controller = controller;
      attributes = a;
      count = 1;
    } ∷ []))

-- the items of a pair on an interface, whatever their attributes
abbrev pub is_closed_by : ℕ → List ℕ → ℕ → ℕ → OpenRecord → Bool
is_closed_by n guid agent controller o = is_open_on n guid o && is_of_pair controller agent o

abbrev pub without_items : (OpenRecord → Bool) → List OpenRecord → List OpenRecord
without_items p opens = filter (λ o. not (p o)) opens
