-- The open items at their places, and where those on each handle and of each controller are.
use Rattle.std.specs.Prelude.{◌≡◌, ℕ, ◌+◌, ◌<◌, ◌==◌, ◌||◌, ◌&&◌, Bool, true, false, cond, drop, List, [], ◌∷◌, Option, Some, None, slice_get, slice_index_or, IfSome, IfNone}
use Rattle.std.specs.List.{list_any, AllByRecursion}
use Rattle.guid_handles.specs.Sorting.{Ascending}
use Rattle.guid_handles.specs.NumberLists.{list_of}
use Rattle.guid_handles.specs.Places.{has_place}
use Rattle.open_agents.specs.declared.items.OpenRecord.{OpenRecord}
use Rattle.open_agents.specs.declared.near.Near.{Near}
use Rattle.open_agents.specs.declared.near.Found.{Found}
use Rattle.open_agents.specs.OpenItems.{is_equal_item}

-- ---- items at places

abbrev pub with_first : Option OpenRecord → List OpenRecord → List OpenRecord
with_first None os = os
with_first (Some o) os = o ∷ os

-- the items that are there, in the order in which they were made
abbrev pub items_in : List (Option OpenRecord) → List OpenRecord
items_in [] = []
items_in (s ∷ ss) = with_first s (items_in ss)

-- the item at a place, if there is one
abbrev pub item_at : List (Option OpenRecord) → ℕ → Option OpenRecord
item_at slots at = slice_index_or slots at None

-- the items at some places
abbrev pub items_at : List (Option OpenRecord) → List ℕ → List OpenRecord
items_at slots [] = []
items_at slots (k ∷ ks) = with_first (item_at slots k) (items_at slots ks)

-- the items near a handle
abbrev pub items_near : Near → List OpenRecord
items_near near = items_at near.slots.now near.places.now

-- there is an item, and it passes a test
abbrev pub passes : (OpenRecord → Bool) → Option OpenRecord → Bool
passes p None = false
passes p (Some o) = p o

-- an item that passes a test is at a place
abbrev pub HoldsAt : (OpenRecord → Bool) → List (Option OpenRecord) → ℕ → Type 0
HoldsAt p slots at = passes p (item_at slots at) ≡ true

-- ---- items near a handle

-- Where a place is returned, an item that passes a test is there.
abbrev pub Finds : (OpenRecord → Bool) → Near → Option ℕ → Type 0
Finds p near result = IfSome result (HoldsAt p near.slots.now)

-- Where no place is returned, no item near the handle passes the test.
abbrev pub MissesNone : (OpenRecord → Bool) → Near → Option ℕ → Type 0
MissesNone p near result = IfNone result (list_any p (items_near near) ≡ false)

-- an item near a handle that passes a test is at a place
abbrev pub is_near_at : (OpenRecord → Bool) → Near → ℕ → Bool
is_near_at p near k = has_place near.places.now k && passes p (item_at near.slots.now k)

-- ---- the last item among some places

-- no item at the places from an index on passes a test
abbrev pub NoneFrom : (OpenRecord → Bool) → List (Option OpenRecord) → List ℕ → ℕ → Type 0
NoneFrom p slots places at = list_any p (items_at slots (drop at places)) ≡ false

-- the last item that passes a test is at a place
abbrev pub IsLast : (OpenRecord → Bool) → List (Option OpenRecord) → List ℕ → Found → Type 0
IsLast p slots places f =
    HoldsAt p slots f.place
    × (slice_get places f.index ≡ Some f.place)
    × NoneFrom p slots places (f.index + 1)

-- The last item that passes a test is found, if there is one.
abbrev pub FindsLast : (OpenRecord → Bool) → List (Option OpenRecord) → List ℕ → Option Found
    → Type 0
FindsLast p slots places None = NoneFrom p slots places 0
FindsLast p slots places (Some f) = IsLast p slots places f

-- ---- the places of items

-- some places are those of the items that pass a test
abbrev pub ArePlacesOf : (OpenRecord → Bool) → List (Option OpenRecord) → List ℕ → Type 0
ArePlacesOf p slots places = (k : ℕ) → has_place places k ≡ passes p (item_at slots k)

-- the places of the items that pass a test, where the first place has a number
abbrev pub places_from : ℕ → (OpenRecord → Bool) → List (Option OpenRecord) → List ℕ
places_from k p [] = []
places_from k p (s ∷ ss) =
    cond (passes p s) (k ∷ places_from (k + 1) p ss) (places_from (k + 1) p ss)

-- ---- near a handle

-- the controller of an item, or its handle where it has none
abbrev pub second_block : OpenRecord → ℕ
second_block o = cond (o.controller == 0) o.handle o.controller

-- an item is on a handle, or that is its controller
abbrev pub is_near : ℕ → OpenRecord → Bool
is_near n o = (o.handle == n) || (second_block o == n)

-- an item has a handle as its handle or its controller
abbrev pub is_beside : ℕ → OpenRecord → Bool
is_beside n o = (o.handle == n) || (o.controller == n)

-- two items have the same interface, agent, controller and attributes
abbrev pub are_equal : OpenRecord → OpenRecord → Bool
are_equal o p = is_equal_item o.handle o.guid o.agent o.controller o.attributes p

-- Items, no two of which are equal and each of which has an agent, at their places; these places by
-- handle and controller; and numbers that have the agents of all items among them.
pub record IsOpenStore (slots : List (Option OpenRecord)) (near : List (ℕ × List ℕ))
    (known : List ℕ) : Type 0 where
  pub in_step : (n : ℕ) → list_of near n ≡ places_from 0 (is_near n) slots
  pub ascending : Ascending (λ a b. a < b) known
  pub listed : AllByRecursion (λ o. has_place known o.agent ≡ true) (items_in slots)
  pub distinct : Ascending (λ o p. are_equal p o ≡ false) (items_in slots)
  pub agents : AllByRecursion (λ o. (o.agent == 0) ≡ false) (items_in slots)
