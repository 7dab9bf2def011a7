-- The rules of ConnectController and DisconnectController.
use Rattle.std.specs.Prelude.{◌≡◌, ℕ, Bool, cond, List, Result, Vec}
use Rattle.std.specs.Result.{result_map_both}
use Rattle.page_ranges.specs.declared.statuses.Status.{Status}
use Rattle.page_ranges.specs.declared.statuses.Status.TheVariants.{InvalidParameter, OutOfResources}
use Rattle.guid_handles.specs.HandleTables.{HandleTable}
use Rattle.driver_connect.specs.Drivers.{Meaning}
use Rattle.driver_connect.specs.Starting.{site}
use Rattle.driver_connect.specs.Stopping.{Disconnects}
use Rattle.driver_connect.specs.Connecting.{Connects, connect_refused}
use Rattle.protocol_services.specs.Lists.{Lists}

-- what ConnectController returns, and the lists after it
abbrev pub ConnectsController : {A : Type 0} → List Meaning → Lists → ℕ → List ℕ → Bool
    → Result (Vec ℕ A) Status → Lists → Type 0
ConnectsController ds l handle named recursive result new =
    Connects (site ds l.registrations handle) named recursive l.handles l.opens
    (result_map_both (λ v. v.items) (λ e. e) result) new.handles new.opens
    × (new.registrations ≡ l.registrations)

-- what ConnectController returns where numbers ran out
abbrev pub refusal_without_numbers : HandleTable → ℕ → List ℕ → Status
refusal_without_numbers t handle named =
    cond (connect_refused t handle named) InvalidParameter OutOfResources

-- what DisconnectController returns, and the lists after it
abbrev pub DisconnectsController : List Meaning → Lists → ℕ → ℕ → Result (Unit {0}) Status → Lists
    → Type 0
DisconnectsController ds l handle driver result new =
    Disconnects ds l.handles l.opens handle driver result new.handles new.opens
    × (new.registrations ≡ l.registrations)
