-- The steps of a removal: what is stopped to free an interface, and what goes then.
use Rattle.std.specs.Prelude.{◌≡◌, ℕ, ◌&&◌, not, Bool, true, List, None, IfOk, map, Result, Vec}
use Rattle.page_ranges.specs.declared.statuses.Status.{Status}
use Rattle.guid_handles.specs.HandleTables.{carries}
use Rattle.open_agents.specs.declared.items.OpenRecord.{OpenRecord}
use Rattle.open_agents.specs.OpenItems.{is_keeping}
use Rattle.driver_connect.specs.Drivers.{Meaning}
use Rattle.driver_connect.specs.declared.reconnecting.Replacement.{Replacement}
use Rattle.driver_connect.specs.Stopping.{PlannedStop, planned_stop, takes_item}
use Rattle.protocol_services.specs.Lists.{Lists}
use Rattle.protocol_services.specs.Removing.{Frees, Replaces, can_be_freed, drivers_on, uninstalled, without_opens_on}

-- what the stop takes out that frees an interface
abbrev pub stop_to_free : Lists → ℕ → List ℕ → PlannedStop
stop_to_free l handle guid = planned_stop l.handles l.opens (drivers_on l.opens handle guid)

-- The answer is the stop that frees an interface, or why it can't be freed.
abbrev pub PlansToFree : List Meaning → Lists → ℕ → List ℕ → Result PlannedStop Status → Type 0
PlansToFree ds l handle guid result =
    Frees None (can_be_freed ds l handle guid)
    (λ plan. plan ≡ stop_to_free l handle guid) result l l

-- an item that a stop leaves keeps an interface
abbrev pub keeps_after : PlannedStop → ℕ → List ℕ → OpenRecord → Bool
keeps_after plan n guid o =
    is_keeping n guid o && not (takes_item plan n o.agent o.controller)

-- an interface that no driver has open goes, with the items on it
abbrev pub uninstalled_idle : ℕ → List ℕ → Lists → Lists
uninstalled_idle handle guid l = uninstalled handle guid (without_opens_on handle guid l)

-- the interface that a replacement is for is there
abbrev pub CarriesInterface : Replacement → Lists → Type 0
CarriesInterface r l = carries l.handles r.guid r.handle ≡ true

-- Where events are returned, a value was put in place of another, and the handle was connected, by
-- drivers of these meanings.
abbrev pub ReplacesBy : {D A E : Type 0} → (D → Meaning) → List D → Replacement → Lists
    → Result (Vec ℕ A) E → Lists → Type 0
ReplacesBy meaning drivers r l result new =
    IfOk result (λ events. Replaces (map meaning drivers) r.handle r.guid r.value l events new)
