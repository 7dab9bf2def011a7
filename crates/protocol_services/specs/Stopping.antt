-- Stopping the drivers of some pairs, on the lists.
use Rattle.std.specs.Prelude.{ℕ, Bool, List, Option}
use Rattle.guid_handles.specs.declared.records.Pair.{Pair}
use Rattle.driver_connect.specs.Drivers.{Meaning}
use Rattle.driver_connect.specs.Stopping.{can_be_stopped, made_by, stop_set, without_handles, without_opens}
use Rattle.protocol_services.specs.Lists.{Lists}

-- whether the stop set of some pairs can be stopped, for a call on a handle, and of OpenProtocol
-- also with its agent and controller
abbrev pub can_stop : List Meaning → Lists → List Pair → ℕ → Option Pair → Bool
can_stop ds l pairs handle opener =
    can_be_stopped ds l.handles l.opens (stop_set l.handles l.opens pairs) handle opener

-- the lists without the handles and the items of a stop set
abbrev pub without_set : List Pair → Lists → Lists
without_set set l =
    record l {
      handles = without_handles (made_by l.handles set) l.handles;
      opens = without_opens (made_by l.handles set) set l.opens;
    }

-- the lists once the stop set of some pairs is stopped
abbrev pub once_stopped : List Pair → Lists → Lists
once_stopped pairs l = without_set (stop_set l.handles l.opens pairs) l
