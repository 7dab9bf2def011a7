-- The rules of UninstallProtocolInterface and ReinstallProtocolInterface.
use Rattle.std.specs.Prelude.{◌≡◌, ℕ, ◌==◌, ◌&&◌, not, Bool, true, false, cond, List, [], ◌++◌, map, Option, Some, None, Result, Ok, Err, Vec}
use Rattle.std.specs.List.{filter}
use Rattle.page_ranges.specs.declared.statuses.Status.{Status}
use Rattle.page_ranges.specs.declared.statuses.Status.TheVariants.{InvalidParameter, NotFound, AccessDenied, OutOfResources}
use Rattle.guid_handles.specs.HandleTables.{HandleTable, is_live, value_at}
use Rattle.guid_handles.specs.HandleChanges.{with_value, without_interface}
use Rattle.guid_handles.specs.declared.records.Pair.{Pair}
use Rattle.open_agents.specs.declared.items.OpenItem.{OpenItem}
use Rattle.open_agents.specs.declared.items.OpenRecord.{OpenRecord}
use Rattle.open_agents.specs.OpenItems.{is_for_driver, is_kept, is_open_on, items_on, names, without_items}
use Rattle.protocol_notify.specs.Registrations.{events_for}
use Rattle.driver_connect.specs.Drivers.{Meaning}
use Rattle.driver_connect.specs.Starting.{Progress, site}
use Rattle.driver_connect.specs.Connecting.{connected, first_progress, levels_below}
use Rattle.protocol_services.specs.Lists.{Lists}
use Rattle.protocol_services.specs.Stopping.{can_stop, once_stopped}

-- ---- refusals that no driver decides

abbrev pub is_value : ℕ → Option ℕ → Bool
is_value value None = false
is_value value (Some v) = v == value

-- the handle is not live, or does not carry the GUID with the value
abbrev pub removal_refusal : HandleTable → ℕ → List ℕ → ℕ → Option Status
removal_refusal t handle guid value =
    cond (is_live t handle)
    (cond (is_value value (value_at t handle guid)) None (Some NotFound)) (Some InvalidParameter)

-- ---- freeing an interface

-- the controller and the agent of an item of an interface
abbrev pub manager_in : OpenItem → Pair
manager_in i = record { controller = i.controller; agent = i.agent }

-- the controllers and the agents of the items that are for a driver
abbrev pub drivers_among : List OpenItem → List Pair
drivers_among items = map manager_in (filter (λ i. is_for_driver i.attributes) items)

-- the managers that have an interface open
abbrev pub drivers_on : List OpenRecord → ℕ → List ℕ → List Pair
drivers_on opens handle guid = drivers_among (items_on opens handle guid)

-- the lists once these are stopped
abbrev pub once_freed : ℕ → List ℕ → Lists → Lists
once_freed handle guid l = once_stopped (drivers_on l.opens handle guid) l

-- An interface can be freed: the drivers that have it open can be stopped, and once they are, no
-- item keeps it.
abbrev pub can_be_freed : List Meaning → Lists → ℕ → List ℕ → Bool
can_be_freed ds l handle guid =
    can_stop ds l (drivers_on l.opens handle guid) handle None
    && not (is_kept (once_freed handle guid l).opens handle guid)

-- the items that are left on an interface go
abbrev pub without_opens_on : ℕ → List ℕ → Lists → Lists
without_opens_on handle guid l = record l { opens = without_items (is_open_on handle guid) l.opens }

-- the lists with an interface that nobody has open any more
abbrev pub freed : ℕ → List ℕ → Lists → Lists
freed handle guid l = without_opens_on handle guid (once_freed handle guid l)

-- What a service returns that frees an interface and then does what it is for: a refusal,
-- ACCESS_DENIED where the interface can't be freed, or what it returns. Where the call is valid,
-- OUT_OF_RESOURCES means out of memory or of numbers.
abbrev pub Frees : {R : Type 0} → Option Status → Bool → (R → Type 0) → Result R Status → Lists
    → Lists → Type 0
Frees (Some refusal) can Does (Ok returned) l new = ⊥
Frees (Some refusal) can Does (Err status) l new = (status ≡ refusal) × (new ≡ l)
Frees None can Does (Ok returned) l new = (can ≡ true) × Does returned
Frees None can Does (Err AccessDenied) l new = (can ≡ false) × (new ≡ l)
Frees None can Does (Err OutOfResources) l new = new ≡ l
Frees None can Does (Err status) l new = ⊥

-- ---- UninstallProtocolInterface

-- the items that name a handle go if it is not live any more
abbrev pub without_dead : ℕ → Lists → Lists
without_dead handle l =
    cond (is_live l.handles handle) l (record l { opens = without_items (names handle) l.opens })

-- an interface goes, and with its last interface its handle
abbrev pub uninstalled : ℕ → List ℕ → Lists → Lists
uninstalled handle guid l =
    without_dead handle (record l { handles = without_interface handle guid l.handles })

-- what UninstallProtocolInterface returns, and the lists after it
abbrev pub Uninstalls : List Meaning → Lists → ℕ → List ℕ → ℕ → Result (Unit {0}) Status → Lists
    → Type 0
Uninstalls ds l handle guid value result new =
    Frees (removal_refusal l.handles handle guid value) (can_be_freed ds l handle guid)
    (λ done. new ≡ uninstalled handle guid (freed handle guid l)) result l new

-- ---- ReinstallProtocolInterface

-- an interface stays in its place, with another value and a new stamp
abbrev pub replaced : ℕ → List ℕ → ℕ → Lists → Lists
replaced handle guid value l = record l { handles = with_value handle guid value l.handles }

-- how far a connect comes on a handle and all below it, with no driver named
abbrev pub reconnected : List Meaning → ℕ → Lists → Progress
reconnected ds handle l =
    connected (levels_below true) (site ds l.registrations handle) []
    (first_progress l.handles l.opens)

-- the lists as far as a connect has come
abbrev pub with_progress : Progress → Lists → Lists
with_progress p l = record l { handles = p.handles; opens = p.opens }

-- a value is put in place of another, its registrations are signaled, and the handle is connected
abbrev pub Replaces : {A : Type 0} → List Meaning → ℕ → List ℕ → ℕ → Lists → Vec ℕ A → Lists
    → Type 0
Replaces ds handle guid value l events new =
    (events.items ≡ events_for l.registrations guid
    ++ (reconnected ds handle (replaced handle guid value l)).events)
    × (new ≡ with_progress (reconnected ds handle (replaced handle guid value l)) l)

-- what ReinstallProtocolInterface returns, and the lists after it
abbrev pub Reinstalls : {A : Type 0} → List Meaning → Lists → ℕ → List ℕ → ℕ → ℕ
    → Result (Vec ℕ A) Status → Lists → Type 0
Reinstalls ds l handle guid old_value new_value result new =
    Frees (removal_refusal l.handles handle guid old_value) (can_be_freed ds l handle guid)
    (λ events. Replaces ds handle guid new_value (freed handle guid l) events new) result l new
