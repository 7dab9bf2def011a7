-- What is asked of the state without a call.
use Rattle.std.specs.Prelude.{◌≡◌, ℕ, true, false, List, length, Option, Some, None}
use Rattle.guid_handles.specs.HandleTables.{carries, written_over}
use Rattle.open_agents.specs.declared.items.OpenItem.{OpenItem}
use Rattle.open_agents.specs.OpenItems.{items_on}
use Rattle.protocol_services.specs.Lists.{Lists}

-- The items open on an interface are written over a buffer's front, as many as fit, and counted;
-- there are none to write where the handle does not carry the GUID.
abbrev pub WritesItems : Lists → ℕ → List ℕ → List OpenItem → Option ℕ → List OpenItem → Type 0
WritesItems lists handle guid out (Some count) new =
    (carries lists.handles guid handle ≡ true)
    × (count ≡ length (items_on lists.opens handle guid))
    × (new ≡ written_over (items_on lists.opens handle guid) out)
WritesItems lists handle guid out None new =
    (carries lists.handles guid handle ≡ false) × (new ≡ out)
