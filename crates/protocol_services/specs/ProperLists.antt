-- What is true of the lists of the protocol services after any calls.
use Rattle.std.specs.Prelude.{◌≡◌, ◌≤◌, ◌&&◌, ◌||◌, Bool, true, false, length}
use Rattle.std.specs.List.{AllByRecursion}
use Rattle.guid_handles.specs.declared.records.Interface.{Interface}
use Rattle.guid_handles.specs.HandleTables.{HandleTable, is_at, is_live}
use Rattle.guid_handles.specs.HandleChanges.{IsHandleTable, is_dead, max_handles}
use Rattle.guid_handles.specs.Sorting.{Ascending}
use Rattle.open_agents.specs.declared.items.OpenRecord.{OpenRecord}
use Rattle.open_agents.specs.OpenItems.{is_for_driver, is_exclusive, is_open_on}
use Rattle.protocol_services.specs.Lists.{Lists}

-- two interfaces are not of one GUID on one handle
abbrev pub AreApart : Interface → Interface → Type 0
AreApart i j = is_at j.handle j.guid i ≡ false

-- an item's handle and its agent are live, and its controller is live or 0
pub record NamesLive (t : HandleTable) (o : OpenRecord) : Type 0 where
  pub handle : is_live t o.handle ≡ true
  pub agent : is_live t o.agent ≡ true
  pub controller : is_dead t o.controller ≡ false

-- an item is for a driver or exclusive, and so holds its interface
abbrev pub holds : OpenRecord → Bool
holds o = is_for_driver o.attributes || is_exclusive o.attributes

-- where an item holds an interface, another one doesn't hold it
abbrev pub HoldApart : OpenRecord → OpenRecord → Type 0
HoldApart o p = holds p ≡ true → (is_open_on p.handle p.guid o && holds o) ≡ false

-- The handle table is proper, with no more handles than may be live, and no GUID twice on a handle;
-- each open item names live handles; and each interface is held by one item at most.
pub record AreProperLists (l : Lists) : Type 0 where
  pub table : IsHandleTable l.handles
  pub limit : length l.handles.handles ≤ max_handles
  pub guids : Ascending AreApart l.handles.interfaces
  pub names : AllByRecursion (NamesLive l.handles) l.opens
  pub holders : Ascending HoldApart l.opens
