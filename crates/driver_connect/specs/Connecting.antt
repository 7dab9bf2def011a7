-- Connecting a handle, and the handles that are made.
use Rattle.std.specs.Prelude.{◌≡◌, ℕ, zero, suc, ◌||◌, nat_lt, Bool, true, false, not, cond, List, [], ◌∷◌, ◌++◌, length, Result, Ok, Err}
use Rattle.std.specs.declared.vec.Vec.{Vec}
use Rattle.std.specs.List.{filter}
use Rattle.std.specs.Result.{result_map_both}
use Rattle.page_ranges.specs.declared.statuses.Status.{Status}
use Rattle.page_ranges.specs.declared.statuses.Status.TheVariants.{InvalidParameter, OutOfResources, NotFound}
use Rattle.guid_handles.specs.HandleTables.{HandleTable, numbers, is_live}
use Rattle.guid_handles.specs.HandleChanges.{with_value}
use Rattle.open_agents.specs.declared.items.OpenRecord.{OpenRecord}
use Rattle.protocol_notify.specs.declared.notify.Registration.{Registration}
use Rattle.driver_connect.specs.Drivers.{Meaning}
use Rattle.driver_connect.specs.Starting.{Site, site, site_of, Progress, starts_on, is_any_carried_out}

-- the handles made after a number was given, ascending
abbrev pub made_after : ℕ → HandleTable → List ℕ
made_after last t = filter (λ n. nat_lt last n) (numbers t)

-- something done for one handle after the other
abbrev pub for_each : (ℕ → Progress → Progress) → List ℕ → Progress → Progress
for_each f [] p = p
for_each f (n ∷ ns) p = for_each f ns (f n p)

-- A handle is connected, and then, a number of levels below it, each handle that this made, with
-- all below it before the next.
abbrev pub connected : ℕ → Site → List ℕ → Progress → Progress
connected zero c named p = (starts_on c named p).progress
connected (suc k) c named p =
    for_each (λ n q. connected k (site c.drivers c.registrations n) [] q)
    (made_after p.handles.last_number (starts_on c named p).progress.handles)
    (starts_on c named p).progress

-- each of some handles is connected, a number of levels deep, with no driver named
abbrev pub each_connected : ℕ → List Meaning → List Registration → List ℕ → Progress → Progress
each_connected k ds rs ns p = for_each (λ n q. connected k (site ds rs n) [] q) ns p

-- the named handle is at the first of eight levels
abbrev pub levels_below : Bool → ℕ
levels_below recursive = cond recursive 7 0

-- how many drivers may be named
abbrev pub max_named : ℕ
max_named = 16

abbrev pub connect_refused : HandleTable → ℕ → List ℕ → Bool
connect_refused t handle named = not (is_live t handle) || nat_lt max_named (length named)

abbrev pub first_progress : HandleTable → List OpenRecord → Progress
first_progress t opens = record { handles = t; opens = opens; events = [] }

-- What ConnectController returns, and what it leaves. Where a start on the handle is carried out,
-- its events are returned; otherwise all stays. Where the call is valid, OUT_OF_RESOURCES means out
-- of memory.
abbrev pub Connects : Site → List ℕ → Bool → HandleTable → List OpenRecord → Result (List ℕ) Status
    → HandleTable → List OpenRecord → Type 0
Connects c named recursive t opens (Ok events) new_t new_opens =
    (connect_refused t c.controller named ≡ false)
    × (is_any_carried_out (starts_on c named (first_progress t opens)).starts ≡ true)
    × (record { handles = new_t; opens = new_opens; events = events }
    ≡ connected (levels_below recursive) c named (first_progress t opens))
Connects c named recursive t opens (Err InvalidParameter) new_t new_opens =
    (connect_refused t c.controller named ≡ true) × (new_t ≡ t) × (new_opens ≡ opens)
Connects c named recursive t opens (Err NotFound) new_t new_opens =
    (connect_refused t c.controller named ≡ false)
    × (is_any_carried_out (starts_on c named (first_progress t opens)).starts ≡ false)
    × (new_t ≡ t) × (new_opens ≡ opens)
Connects c named recursive t opens (Err OutOfResources) new_t new_opens =
    (connect_refused t c.controller named ≡ false) × (new_t ≡ t) × (new_opens ≡ opens)
Connects c named recursive t opens (Err e) new_t new_opens = ⊥

-- The same with drivers of these meanings, and of the call's own result.
abbrev pub ConnectsBy : {D A : Type 0} → (D → Meaning) → List D → List Registration → ℕ → List ℕ
    → Bool → HandleTable → List OpenRecord → Result (Vec ℕ A) Status → HandleTable
    → List OpenRecord → Type 0
ConnectsBy meaning drivers rs handle named recursive t opens result new_t new_opens =
    Connects (site_of meaning drivers rs handle) named recursive t opens
    (result_map_both (λ v. v.items) (λ e. e) result) new_t new_opens

-- a handle and all below it, connected with no driver named
abbrev pub connected_below : Site → Progress → Progress
connected_below c p = connected (levels_below true) c [] p

-- A handle and all below it are connected, with no driver named: events that are given come before
-- those of the connect.
abbrev pub ConnectsBelow : Site → HandleTable → List OpenRecord → List ℕ → List ℕ → HandleTable
    → List OpenRecord → Type 0
ConnectsBelow c t opens given events new_t new_opens =
    (new_t ≡ (connected_below c (first_progress t opens)).handles)
    × (new_opens ≡ (connected_below c (first_progress t opens)).opens)
    × (events ≡ given ++ (connected_below c (first_progress t opens)).events)

-- The same with drivers of these meanings.
abbrev pub ConnectsAll : {D : Type 0} → (D → Meaning) → List D → List Registration → ℕ → HandleTable
    → List OpenRecord → List ℕ → List ℕ → HandleTable → List OpenRecord → Type 0
ConnectsAll meaning drivers rs handle t opens given events new_t new_opens =
    ConnectsBelow (site_of meaning drivers rs handle) t opens given events new_t new_opens

-- The same once an interface of the handle has another value and a new stamp.
abbrev pub Reconnects : {D : Type 0} → (D → Meaning) → List D → List Registration → ℕ → List ℕ → ℕ
    → HandleTable → List OpenRecord → List ℕ → List ℕ → HandleTable → List OpenRecord → Type 0
Reconnects meaning drivers rs handle guid value t opens given events new_t new_opens =
    ConnectsAll meaning drivers rs handle (with_value handle guid value t) opens given events
    new_t new_opens
