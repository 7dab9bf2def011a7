-- The rule of UninstallMultipleProtocolInterfaces: all of some interfaces go, or none.
use Rattle.std.specs.Prelude.{◌≡◌, ℕ, ◌≤◌, ◌&&◌, not, Bool, cond, List, [], ◌∷◌, length, Option, Some, None, is_some, Result, Ok, Err}
use Rattle.std.specs.List.{list_all}
use Rattle.page_ranges.specs.declared.statuses.Status.{Status}
use Rattle.page_ranges.specs.declared.statuses.Status.TheVariants.{InvalidParameter, OutOfResources}
use Rattle.guid_handles.specs.HandleChanges.{has_guid_twice}
use Rattle.open_agents.specs.OpenItems.{is_driven, is_kept}
use Rattle.driver_connect.specs.Drivers.{Meaning}
use Rattle.protocol_services.specs.Lists.{Lists}
use Rattle.protocol_services.specs.Removing.{can_be_freed, freed, removal_refusal, uninstalled}

-- the most interfaces that are uninstalled at once, as many as are installed at once
abbrev pub max_uninstalled : ℕ
max_uninstalled = 16

-- UninstallProtocolInterface of a GUID and a value on a handle is not refused
abbrev pub can_be_uninstalled : List Meaning → Lists → ℕ → List ℕ × ℕ → Bool
can_be_uninstalled ds l handle p =
    not (is_some (removal_refusal l.handles handle p.0 p.1)) && can_be_freed ds l handle p.0

-- the lists after it
abbrev pub once_uninstalled : ℕ → List ℕ × ℕ → Lists → Lists
once_uninstalled handle p l = uninstalled handle p.0 (freed handle p.0 l)

-- the lists once some interfaces are uninstalled one after the other, where none of them is refused
-- at its turn
abbrev pub all_uninstalled : List Meaning → ℕ → List (List ℕ × ℕ) → Lists → Option Lists
all_uninstalled ds handle [] l = Some l
all_uninstalled ds handle (p ∷ pairs) l =
    cond (can_be_uninstalled ds l handle p)
    (all_uninstalled ds handle pairs (once_uninstalled handle p l)) None

-- what is returned for all of them where one is refused
abbrev pub refusal_of_all : Status → Status
refusal_of_all OutOfResources = OutOfResources
refusal_of_all status = InvalidParameter

-- What UninstallMultipleProtocolInterfaces returns, and the lists after it: all interfaces are gone,
-- or the lists are as they were. OUT_OF_RESOURCES means out of memory.
abbrev pub UninstallsMany : List Meaning → Lists → ℕ → List (List ℕ × ℕ) → Result (Unit {0}) Status
    → Lists → Type 0
UninstallsMany ds l handle pairs (Ok done) new =
    (length pairs ≤ max_uninstalled) × (all_uninstalled ds handle pairs l ≡ Some new)
UninstallsMany ds l handle pairs (Err InvalidParameter) new =
    ((length pairs ≤ max_uninstalled) → all_uninstalled ds handle pairs l ≡ None) × (new ≡ l)
UninstallsMany ds l handle pairs (Err OutOfResources) new =
    (length pairs ≤ max_uninstalled) × (new ≡ l)
UninstallsMany ds l handle pairs (Err status) new = ⊥

-- what is left where interfaces are uninstalled one after the other up to the first that is refused
abbrev pub UninstallsEach : List Meaning → Lists → ℕ → List (List ℕ × ℕ) → Result (Unit {0}) Status
    → Lists → Type 0
UninstallsEach ds l handle pairs (Ok done) new = all_uninstalled ds handle pairs l ≡ Some new
UninstallsEach ds l handle pairs (Err InvalidParameter) new =
    all_uninstalled ds handle pairs l ≡ None
UninstallsEach ds l handle pairs (Err OutOfResources) new = Unit {0}
UninstallsEach ds l handle pairs (Err status) new = ⊥

-- An interface is free to go: it is there with the value, no driver has it open and no item keeps it.
abbrev pub is_free_to_go : Lists → ℕ → List ℕ × ℕ → Bool
is_free_to_go l handle p =
    not (is_some (removal_refusal l.handles handle p.0 p.1))
    && (not (is_driven l.opens handle p.0) && not (is_kept l.opens handle p.0))

-- none of some interfaces is named twice, and each is free to go
abbrev pub are_free_to_go : Lists → ℕ → List (List ℕ × ℕ) → Bool
are_free_to_go l handle pairs =
    not (has_guid_twice pairs) && list_all (is_free_to_go l handle) pairs

-- Interfaces are uninstalled one after the other and none is refused, whatever drivers there are.
abbrev pub AllGo : Lists → ℕ → List (List ℕ × ℕ) → Lists → Type 0
AllGo l handle pairs new = (ds : List Meaning) → all_uninstalled ds handle pairs l ≡ Some new
