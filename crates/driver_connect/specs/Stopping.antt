-- Stopping drivers. A pair is a controller and the agent of a driver that has it open, its manager.
use Rattle.std.specs.Prelude.{◌≡◌, ℕ, zero, suc, ◌+◌, ◌==◌, ◌&&◌, ◌||◌, Bool, true, false, not, cond, List, [], ◌∷◌, ◌++◌, map, length, Option, Some, None, Result, Ok, Err}
use Rattle.std.specs.List.{filter, list_any, list_all}
use Rattle.page_ranges.specs.declared.statuses.Status.{Status}
use Rattle.page_ranges.specs.declared.statuses.Status.TheVariants.{InvalidParameter, OutOfResources, DeviceError}
use Rattle.guid_handles.specs.declared.records.Pair.{Pair}
use Rattle.guid_handles.specs.HandleTables.{HandleTable, numbers, maker_of, is_live, carries}
use Rattle.open_agents.specs.declared.items.OpenRecord.{OpenRecord}
use Rattle.open_agents.specs.OpenItems.{is_for_driver, manager_of, names, managers_of, without_items}
use Rattle.driver_connect.specs.Drivers.{Meaning, ViewValue, view_of, driver_binding, driver_of, may_stop_at}

-- ---- pairs

abbrev pub same_pair : Pair → Pair → Bool
same_pair p q = (p.controller == q.controller) && (p.agent == q.agent)

abbrev pub has_pair : List Pair → Pair → Bool
has_pair pairs p = list_any (same_pair p) pairs

-- each of some pairs joins others, unless it is there
abbrev pub with_pair : List Pair → Pair → List Pair
with_pair pairs p = cond (has_pair pairs p) pairs (pairs ++ p ∷ [])

abbrev pub with_pairs : List Pair → List Pair → List Pair
with_pairs pairs [] = pairs
with_pairs pairs (p ∷ ps) = with_pairs (with_pair pairs p) ps

-- ---- the stop set

-- a maker, if there is one, is one of some pairs
abbrev pub is_maker : List Pair → Option Pair → Bool
is_maker pairs None = false
is_maker pairs (Some m) = has_pair pairs m

-- a live handle's maker is one of some pairs
abbrev pub is_made_by : HandleTable → List Pair → ℕ → Bool
is_made_by t pairs n = is_maker pairs (maker_of t n)

-- the handles that some pairs made, ascending
abbrev pub made_by : HandleTable → List Pair → List ℕ
made_by t pairs = filter (is_made_by t pairs) (numbers t)

-- an item makes its pair manage a handle that some pairs made
abbrev pub manages_made : HandleTable → List Pair → OpenRecord → Bool
manages_made t pairs o = is_for_driver o.attributes && is_made_by t pairs o.controller

-- the pairs that manage a handle that some pairs made, by items on any handle
abbrev pub managers_of_made : HandleTable → List OpenRecord → List Pair → List Pair
managers_of_made t opens pairs = map manager_of (filter (manages_made t pairs) opens)

-- a round adds the managers of the handles that the pairs of the set made
abbrev pub round : HandleTable → List OpenRecord → List Pair → List Pair
round t opens set = with_pairs set (managers_of_made t opens set)

abbrev pub rounds : ℕ → HandleTable → List OpenRecord → List Pair → List Pair
rounds zero t opens set = set
rounds (suc k) t opens set = rounds k t opens (round t opens set)

-- The stop set of some pairs: as many rounds as there are handles and open items make it of them.
-- Its handles are those that its pairs made.
abbrev pub stop_set : HandleTable → List OpenRecord → List Pair → List Pair
stop_set t opens pairs = rounds (length t.handles + length opens) t opens (with_pairs [] pairs)

-- ---- whether it can be stopped

-- the driver at a place, if there is one, may be stopped on what it is shown
abbrev pub may_stop_if_any : List Meaning → Option ℕ → ViewValue → Bool
may_stop_if_any ds None s = false
may_stop_if_any ds (Some i) s = may_stop_at ds i s

-- the agent of a pair is a driver handle, and its driver may be stopped on the controller
abbrev pub may_stop : List Meaning → HandleTable → List OpenRecord → Pair → Bool
may_stop ds t opens p =
    may_stop_if_any ds (driver_of ds t p.agent) (view_of t opens p.agent p.controller)

-- opens that are for no driver, not exclusive and not for a child
abbrev pub is_passing : ℕ → Bool
is_passing a = (a == 0x1) || ((a == 0x2) || (a == 0x4))

-- an item is no obstacle to a stop: it is a passing one, it goes with its pair, or it is for a
-- child that goes
abbrev pub is_no_obstacle : HandleTable → List Pair → OpenRecord → Bool
is_no_obstacle t set o =
    is_passing o.attributes
    || (has_pair set (manager_of o) || ((o.attributes == 0x8) && is_made_by t set o.controller))

-- the items on the handles of a set are no obstacles
abbrev pub is_unobstructed : HandleTable → List OpenRecord → List Pair → Bool
is_unobstructed t opens set =
    list_all (λ o. not (is_made_by t set o.handle) || is_no_obstacle t set o) opens

abbrev pub has_agent : List Pair → ℕ → Bool
has_agent pairs agent = list_any (λ p. p.agent == agent) pairs

-- the agent and the controller of a call of OpenProtocol, if there is one, stay
abbrev pub spares_opener : HandleTable → List Pair → Option Pair → Bool
spares_opener t set None = true
spares_opener t set (Some o) =
    not (has_agent set o.agent)
    && (not (is_made_by t set o.agent) && not (is_made_by t set o.controller))

-- A set can be stopped: each driver may be, no item is an obstacle, and the handle and the opener
-- of the call stay.
abbrev pub can_be_stopped : List Meaning → HandleTable → List OpenRecord → List Pair → ℕ
    → Option Pair → Bool
can_be_stopped ds t opens set handle opener =
    list_all (may_stop ds t opens) set
    && (is_unobstructed t opens set
    && (not (is_made_by t set handle) && spares_opener t set opener))

-- ---- what stopping takes out

abbrev pub is_one_of : List ℕ → ℕ → Bool
is_one_of ns n = list_any (λ m. n == m) ns

-- handles go with their interfaces
abbrev pub without_handles : List ℕ → HandleTable → HandleTable
without_handles ns t =
    record t {
      handles = filter (λ h. not (is_one_of ns h.number)) t.handles;
      interfaces = filter
          (λ i. not (is_one_of ns i.handle)) t.interfaces;
    }

-- an item names one of some handles
abbrev pub names_any : List ℕ → OpenRecord → Bool
names_any ns o = list_any (λ n. names n o) ns

-- the items of some pairs go, whatever their attributes
abbrev pub without_pairs : List Pair → List OpenRecord → List OpenRecord
without_pairs pairs opens = without_items (λ o. has_pair pairs (manager_of o)) opens

-- the items that name one of some handles, and those of some pairs, go
abbrev pub without_opens : List ℕ → List Pair → List OpenRecord → List OpenRecord
without_opens ns pairs opens = without_pairs pairs (without_items (names_any ns) opens)

-- What a stop takes out: the pairs that it stops, and the handles that these made.
pub record PlannedStop : Type 0 where
  pub pairs : List Pair
  pub handles : List ℕ

-- the stop of some pairs takes out their stop set, with its handles
abbrev pub planned_stop : HandleTable → List OpenRecord → List Pair → PlannedStop
planned_stop t opens pairs =
    record { pairs = stop_set t opens pairs; handles = made_by t (stop_set t opens pairs) }

-- a stop takes out the items of an agent and a controller on a handle
abbrev pub takes_item : PlannedStop → ℕ → ℕ → ℕ → Bool
takes_item plan handle agent controller =
    list_any (λ n. (handle == n) || ((agent == n) || (controller == n))) plan.handles
    || has_pair plan.pairs (record { controller = controller; agent = agent })

-- What is returned of a stop of some pairs, and what it leaves: their stop set goes, or all
-- stays.
abbrev pub Stops : List Meaning → HandleTable → List OpenRecord → List Pair → ℕ → Option Pair
    → Bool → HandleTable → List OpenRecord → Type 0
Stops ds t opens pairs handle opener true new_t new_opens =
    (can_be_stopped ds t opens (stop_set t opens pairs) handle opener ≡ true)
    × (new_t ≡ without_handles (made_by t (stop_set t opens pairs)) t)
    × (new_opens ≡ without_opens (made_by t (stop_set t opens pairs))
    (stop_set t opens pairs) opens)
Stops ds t opens pairs handle opener false new_t new_opens =
    (can_be_stopped ds t opens (stop_set t opens pairs) handle opener ≡ false) × (new_t ≡ t)
    × (new_opens ≡ opens)

-- ---- disconnecting

-- a handle that is not live, or a driver other than 0 that does not carry the driver binding
-- protocol
abbrev pub disconnect_refused : HandleTable → ℕ → ℕ → Bool
disconnect_refused t handle driver =
    not (is_live t handle)
    || (not (driver == 0) && (not (is_live t driver) || not (carries t driver_binding driver)))

-- driver 0 means all
abbrev pub is_meant : ℕ → Pair → Bool
is_meant driver p = (driver == 0) || (p.agent == driver)

-- the pairs that manage a handle, those of one driver alone if it is not 0
abbrev pub managers_meant : List OpenRecord → ℕ → ℕ → List Pair
managers_meant opens handle driver = filter (is_meant driver) (managers_of opens handle)

-- What DisconnectController returns, and what it leaves. Where the call is valid, OUT_OF_RESOURCES
-- means out of memory.
abbrev pub Disconnects : List Meaning → HandleTable → List OpenRecord → ℕ → ℕ
    → Result (Unit {0}) Status → HandleTable → List OpenRecord → Type 0
Disconnects ds t opens handle driver (Ok done) new_t new_opens =
    (disconnect_refused t handle driver ≡ false)
    × Stops ds t opens (managers_meant opens handle driver) handle None true new_t new_opens
Disconnects ds t opens handle driver (Err InvalidParameter) new_t new_opens =
    (disconnect_refused t handle driver ≡ true) × (new_t ≡ t) × (new_opens ≡ opens)
Disconnects ds t opens handle driver (Err DeviceError) new_t new_opens =
    (disconnect_refused t handle driver ≡ false)
    × Stops ds t opens (managers_meant opens handle driver) handle None false new_t new_opens
Disconnects ds t opens handle driver (Err OutOfResources) new_t new_opens =
    (disconnect_refused t handle driver ≡ false) × (new_t ≡ t) × (new_opens ≡ opens)
Disconnects ds t opens handle driver (Err e) new_t new_opens = ⊥
