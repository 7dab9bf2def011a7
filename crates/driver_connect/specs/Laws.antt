-- The laws of stopping and connecting. Each is the contract of a public function.
use Rattle.std.specs.Prelude.{◌≡◌, ℕ, ◌==◌, ◌&&◌, ◌++◌, Bool, true, false, List, [], Option, Some, None}
use Rattle.std.specs.List.{filter, list_any, AllByRecursion}
use Rattle.guid_handles.specs.declared.records.LiveHandle.{LiveHandle}
use Rattle.guid_handles.specs.declared.records.Pair.{Pair}
use Rattle.guid_handles.specs.HandleTables.{HandleTable, has_number, is_on}
use Rattle.guid_handles.specs.HandleChanges.{IsHandleTable}
use Rattle.guid_handles.specs.Sorting.{Ascending}
use Rattle.open_agents.specs.declared.items.OpenRecord.{OpenRecord}
use Rattle.open_agents.specs.OpenItems.{is_of_pair, names}
use Rattle.driver_connect.specs.declared.agents.Agent.{Agent}
use Rattle.driver_connect.specs.Stopping.{has_pair, managers_of_made, rounds, stop_set, is_one_of, without_handles, without_opens}
use Rattle.driver_connect.specs.Starting.{IsNotLower, by_version, Site, Progress, starts_on, is_any_carried_out}
use Rattle.driver_connect.specs.Connecting.{connected}

-- ---- the stop set

-- A set holds some pairs, and each pair that manages a handle that a pair of the set made.
pub record IsClosed (t : HandleTable) (opens : List OpenRecord)
    (pairs set : List Pair) : Type 0 where
  pub given : (p : Pair) → has_pair pairs p ≡ true → has_pair set p ≡ true
  pub managers : (p : Pair) → has_pair (managers_of_made t opens set) p ≡ true
      → has_pair set p ≡ true

-- The stop set of some pairs is the least such set.
abbrev pub StopSetLaw : Type 0
StopSetLaw =
    (t : HandleTable) (opens : List OpenRecord) (pairs : List Pair) →
    IsClosed t opens pairs (stop_set t opens pairs)
    × ((set : List Pair) → IsClosed t opens pairs set → (p : Pair)
    → has_pair (stop_set t opens pairs) p ≡ true → has_pair set p ≡ true)

-- No further round adds anything to it.
abbrev pub RoundsLaw : Type 0
RoundsLaw =
    (k : ℕ) (t : HandleTable) (opens : List OpenRecord) (pairs : List Pair)
    → rounds k t opens (stop_set t opens pairs) ≡ stop_set t opens pairs

-- ---- what stopping takes out

-- Of the handles that go, no interface is left, and no item that names one.
abbrev pub GoneLaw : Type 0
GoneLaw =
    (ns : List ℕ) (pairs : List Pair) (t : HandleTable) (opens : List OpenRecord) (n : ℕ)
    → is_one_of ns n ≡ true →
    (filter (has_number n) (without_handles ns t).handles ≡ [])
    × (filter (is_on n) (without_handles ns t).interfaces ≡ [])
    × (list_any (names n) (without_opens ns pairs opens) ≡ false)

-- Every other handle stays, with its maker and its interfaces.
abbrev pub StaysLaw : Type 0
StaysLaw =
    (ns : List ℕ) (t : HandleTable) (n : ℕ) → is_one_of ns n ≡ false →
    (filter (has_number n) (without_handles ns t).handles ≡ filter (has_number n) t.handles)
    × (filter (is_on n) (without_handles ns t).interfaces ≡ filter (is_on n) t.interfaces)

-- ---- connecting

-- Agents are put by version downwards, and those of each version keep their order.
abbrev pub VersionsLaw : Type 0
VersionsLaw =
    (agents : List Agent) →
    Ascending IsNotLower (by_version [] agents)
    × ((v : ℕ)
    → filter (λ a. a.version == v) (by_version [] agents) ≡ filter (λ a. a.version == v) agents)

-- Where no start on the handle is carried out, all stays as it was, however deep the connect goes.
abbrev pub NothingCarriedOutLaw : Type 0
NothingCarriedOutLaw =
    (levels : ℕ) (c : Site) (named : List ℕ) (p : Progress) → IsHandleTable p.handles
    → is_any_carried_out (starts_on c named p).starts ≡ false → connected levels c named p ≡ p

-- an item of BY_DRIVER of a handle's maker
abbrev pub is_of_maker : Option Pair → OpenRecord → Bool
is_of_maker None o = false
is_of_maker (Some m) o = is_of_pair m.controller m.agent o && (o.attributes == 0x10)

abbrev pub has_makers_item : List OpenRecord → LiveHandle → Bool
has_makers_item opens h = list_any (is_of_maker h.maker) opens

-- All handles stay, in their order, and with each that was made there is an item of its maker.
pub record MakesHandles (old new : Progress) : Type 0 where
  pub made : List LiveHandle
  pub handles : new.handles.handles ≡ old.handles.handles ++ made
  pub items : AllByRecursion (λ h. has_makers_item new.opens h ≡ true) made

-- A connect takes out no handle, and has its maker's item beside each that it makes.
abbrev pub MakersItemLaw : Type 0
MakersItemLaw =
    (levels : ℕ) (c : Site) (named : List ℕ) (p : Progress) → IsHandleTable p.handles
    → MakesHandles p (connected levels c named p)
