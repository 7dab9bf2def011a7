-- What HandleProtocol opens: by no agent and no controller.
use Rattle.std.proofs.Common.{◌≡◌, ℕ, ◌&&◌, ◌||◌, not, Bool, true, false, List, [], ◌∷◌, Option, Some, None, Ok, Err, refl, sym}
use Rattle.page_ranges.specs.declared.statuses.Status.TheVariants.{AccessDenied, AlreadyStarted, InvalidParameter, Unsupported}
use Rattle.guid_handles.specs.HandleTables.{carries, is_live, value_at}
use Rattle.open_agents.specs.declared.items.Decision.{Decision}
use Rattle.open_agents.specs.declared.items.Decision.TheVariants.{Refuse, Count}
use Rattle.open_agents.specs.declared.items.OpenRecord.{OpenRecord}
use Rattle.open_agents.specs.OpenRule.{add_or_stop, driver_item, first_line, has_equal}
use Rattle.protocol_services.specs.Lists.{Lists}
use Rattle.protocol_services.specs.Opening.{HandlesProtocol, OpensAs, by_handle_protocol, once_opened}

-- the open table's lines for it, by what its handle is, carries and has open
abbrev lines : Bool → Bool → Bool → Option OpenRecord → Decision
lines live carried equal item =
    first_line
    ((false, Refuse InvalidParameter)
    ∷ (not live || false, Refuse InvalidParameter)
    ∷ (not carried, Refuse Unsupported)
    ∷ (equal && false, Refuse AlreadyStarted)
    ∷ (equal && false, Refuse AccessDenied)
    ∷ (equal, Count)
    ∷ (false, Refuse AlreadyStarted)
    ∷ (false, Refuse AccessDenied)
    ∷ (false, Refuse AccessDenied)
    ∷ [])
    (add_or_stop false item)

lines_open : (l : Lists) (handle : ℕ) (guid : List ℕ) (value : ℕ) (new : Lists) (equal : Bool) (item : Option OpenRecord) → value_at l.handles handle guid ≡ Some value → new ≡ once_opened l handle guid 0 0 by_handle_protocol
    → OpensAs [] (lines true true equal item) l handle guid 0 0 by_handle_protocol (Ok (Some value)) new
lines_open l handle guid value new true item v n = (sym v, n)
lines_open l handle guid value new false None v n = (sym v, n)
lines_open l handle guid value new false (Some o) v n = (sym v, n)

pub found_opens : (l : Lists) (handle : ℕ) (guid : List ℕ) (value : ℕ) (new : Lists) → is_live l.handles handle ≡ true → carries l.handles guid handle ≡ true → value_at l.handles handle guid ≡ Some value
    → new ≡ once_opened l handle guid 0 0 by_handle_protocol → HandlesProtocol l handle guid (Ok value) new
found_opens l handle guid value new live carried v n =
    let lines = lines_open l handle guid value new (has_equal l.opens handle guid 0 0 by_handle_protocol) (driver_item l.opens handle guid) v n in
    rw (live, carried) lines

-- a live handle without the GUID
pub none_opens : (l : Lists) (handle : ℕ) (guid : List ℕ) (new : Lists) → is_live l.handles handle ≡ true → carries l.handles guid handle ≡ false → new ≡ l → HandlesProtocol l handle guid (Err Unsupported) new
none_opens l handle guid new live carried n = rw (live, carried) (refl, n)

-- and a dead one
pub dead_opens : (l : Lists) (handle : ℕ) (guid : List ℕ) (new : Lists) → is_live l.handles handle ≡ false → new ≡ l → HandlesProtocol l handle guid (Err InvalidParameter) new
dead_opens l handle guid new dead n = rw dead (refl, n)
