-- The rules of OpenProtocol, HandleProtocol and CloseProtocol.
use Rattle.std.specs.Prelude.{◌≡◌, ◌≢◌, ℕ, ◌==◌, ◌&&◌, ◌||◌, not, Bool, true, false, cond, Option, Some, None, Result, Ok, Err, List, [], ◌∷◌, Vec, length, ◌<◌}
use Rattle.std.specs.List.{list_any}
use Rattle.page_ranges.specs.declared.statuses.Status.{Status}
use Rattle.page_ranges.specs.declared.statuses.Status.TheVariants.{InvalidParameter, NotFound, AccessDenied, OutOfResources}
use Rattle.guid_handles.specs.HandleTables.{is_live, carries, value_at}
use Rattle.guid_handles.specs.HandleChanges.{is_dead}
use Rattle.open_agents.specs.declared.items.Decision.{Decision}
use Rattle.open_agents.specs.declared.items.OpenItem.{OpenItem}
use Rattle.open_agents.specs.declared.items.Decision.TheVariants.{Refuse, Count, Add, StopFirst}
use Rattle.open_agents.specs.OpenItems.{is_closed_by, items_on, with_item, without_items}
use Rattle.open_agents.specs.OpenRule.{open_rule}
use Rattle.guid_handles.specs.declared.records.Pair.{Pair}
use Rattle.driver_connect.specs.Drivers.{Meaning}
use Rattle.protocol_services.specs.Lists.{Lists}
use Rattle.protocol_services.specs.Stopping.{can_stop, once_stopped}

-- EFI_OPEN_PROTOCOL_BY_HANDLE_PROTOCOL
abbrev pub by_handle_protocol : ℕ
by_handle_protocol = 0x1

-- EFI_OPEN_PROTOCOL_TEST_PROTOCOL, which gives no interface
abbrev pub test_protocol : ℕ
test_protocol = 0x4

-- the value that OpenProtocol returns
abbrev pub opened_value : Lists → ℕ → List ℕ → ℕ → Option ℕ
opened_value l handle guid attributes =
    cond (attributes == test_protocol) None (value_at l.handles handle guid)

-- the lists once an open is counted, or has its item
abbrev pub once_opened : Lists → ℕ → List ℕ → ℕ → ℕ → ℕ → Lists
once_opened l handle guid agent controller attributes =
    record l { opens = with_item handle guid agent controller attributes l.opens }

-- the opener of a call, which must stay
abbrev pub opened_by : ℕ → ℕ → Option Pair
opened_by agent controller = Some (record { agent = agent; controller = controller })

-- What OpenProtocol returns where so much was decided, and the lists after it. An exclusive open
-- stops the driver that has the interface open, or is refused with ACCESS_DENIED. Memory may run
-- out there, and for a new item; agent 0 has none.
abbrev pub OpensAs : List Meaning → Decision → Lists → ℕ → List ℕ → ℕ → ℕ → ℕ
    → Result (Option ℕ) Status → Lists → Type 0
OpensAs ds (Refuse status) l handle guid agent controller attributes (Ok value) new = ⊥
OpensAs ds (Refuse status) l handle guid agent controller attributes (Err e) new =
    (e ≡ status) × (new ≡ l)
OpensAs ds (StopFirst pair) l handle guid agent controller attributes (Ok value) new =
    (can_stop ds l (pair ∷ []) handle (opened_by agent controller) ≡ true)
    × (value ≡ opened_value l handle guid attributes)
    × (new ≡ once_opened (once_stopped (pair ∷ []) l) handle guid agent controller attributes)
OpensAs ds (StopFirst pair) l handle guid agent controller attributes (Err AccessDenied) new =
    (can_stop ds l (pair ∷ []) handle (opened_by agent controller) ≡ false) × (new ≡ l)
OpensAs ds (StopFirst pair) l handle guid agent controller attributes (Err OutOfResources) new =
    new ≡ l
OpensAs ds (StopFirst pair) l handle guid agent controller attributes (Err e) new = ⊥
OpensAs ds Count l handle guid agent controller attributes (Ok value) new =
    (value ≡ opened_value l handle guid attributes)
    × (new ≡ once_opened l handle guid agent controller attributes)
OpensAs ds Count l handle guid agent controller attributes (Err e) new = ⊥
OpensAs ds Add l handle guid agent controller attributes (Ok value) new =
    (value ≡ opened_value l handle guid attributes)
    × (new ≡ once_opened l handle guid agent controller attributes)
OpensAs ds Add l handle guid agent controller attributes (Err e) new =
    (agent ≢ 0) × (e ≡ OutOfResources) × (new ≡ l)

-- what OpenProtocol returns, and the lists after it
abbrev pub OpensProtocol : List Meaning → Lists → ℕ → List ℕ → ℕ → ℕ → ℕ → Result (Option ℕ) Status
    → Lists → Type 0
OpensProtocol ds l handle guid agent controller attributes result new =
    OpensAs ds
    (open_rule l.handles l.opens handle guid agent controller attributes) l handle guid agent
    controller attributes result new

-- What HandleProtocol returns, and the lists after it: those of OpenProtocol by no agent and no
-- controller. Such an open stops no driver, so none is asked.
abbrev pub HandlesProtocol : Lists → ℕ → List ℕ → Result ℕ Status → Lists → Type 0
HandlesProtocol l handle guid (Ok value) new =
    OpensProtocol [] l handle guid 0 0 by_handle_protocol (Ok (Some value)) new
HandlesProtocol l handle guid (Err status) new =
    OpensProtocol [] l handle guid 0 0 by_handle_protocol (Err status) new

-- A handle or an agent that is not live, or a controller that is neither 0 nor live.
abbrev pub names_none : Lists → ℕ → ℕ → ℕ → Bool
names_none l handle agent controller =
    not (is_live l.handles handle) ||
    (not (is_live l.handles agent) || is_dead l.handles controller)

-- the GUID is on the handle, and the agent and the controller have an item there
abbrev pub has_open : Lists → ℕ → List ℕ → ℕ → ℕ → Bool
has_open l handle guid agent controller =
    carries l.handles guid handle && list_any (is_closed_by handle guid agent controller) l.opens

-- What CloseProtocol returns, and the lists after it: all items of the agent and the controller are
-- gone, or a refusal leaves the lists.
abbrev pub Closes : Lists → ℕ → List ℕ → ℕ → ℕ → Result (Unit {0}) Status → Lists → Type 0
Closes l handle guid agent controller (Ok done) new =
    (names_none l handle agent controller ≡ false)
    × (has_open l handle guid agent controller ≡ true)
    × (new ≡ record l { opens = without_items (is_closed_by handle guid agent controller) l.opens })
Closes l handle guid agent controller (Err InvalidParameter) new =
    (names_none l handle agent controller ≡ true) × (new ≡ l)
Closes l handle guid agent controller (Err NotFound) new =
    (names_none l handle agent controller ≡ false)
    × (has_open l handle guid agent controller ≡ false) × (new ≡ l)
Closes l handle guid agent controller (Err status) new = ⊥

-- what OpenProtocolInformation lists of the open items of an interface, in the order in which they
-- were made
abbrev pub ReturnsItems : {A : Type 0} → Lists → ℕ → List ℕ → Result (Vec OpenItem A) Status
    → Type 0
ReturnsItems l handle guid (Ok items) =
    (carries l.handles guid handle ≡ true) × (items.items ≡ items_on l.opens handle guid)
ReturnsItems l handle guid (Err NotFound) = carries l.handles guid handle ≡ false
ReturnsItems l handle guid (Err OutOfResources) =
    (carries l.handles guid handle ≡ true) × (0 < length (items_on l.opens handle guid))
ReturnsItems l handle guid (Err status) = ⊥
