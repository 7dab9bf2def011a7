-- An interface with another value, and the connect of its handle.
use Rattle.std.specs.Prelude.{ℕ, List}
use Rattle.guid_handles.specs.HandleTables.{HandleTable}
use Rattle.open_agents.specs.declared.items.OpenRecord.{OpenRecord}
use Rattle.driver_connect.specs.declared.reconnecting.Replacement.{Replacement}
use Rattle.driver_connect.specs.declared.starting.Starter.{Starter}
use Rattle.driver_connect.specs.Drivers.{Meaning}
use Rattle.driver_connect.specs.Connecting.{Reconnects}

-- an interface has another value, and its handle is connected, by what drivers are started by
abbrev pub ReconnectsBy : {D A : Type 0} → (D → Meaning) → Starter D A → Replacement → HandleTable
    → List OpenRecord → List ℕ → List ℕ → HandleTable → List OpenRecord → Type 0
ReconnectsBy meaning s r t opens given events new_t new_opens =
    Reconnects meaning s.drivers.now s.notify.now r.handle r.guid r.value t opens given events
    new_t new_opens
