-- What a caller stops that stops drivers itself.
use Rattle.std.specs.Prelude.{ℕ, List}
use Rattle.guid_handles.specs.declared.records.Pair.{Pair}
use Rattle.driver_connect.specs.Stopping.{managers_meant, planned_stop}
use Rattle.driver_connect.specs.StopOrder.{children_of, stop_order}
use Rattle.protocol_services.specs.Lists.{Lists}
use Rattle.protocol_services.specs.RemovalSteps.{stop_to_free}

-- before an interface can be freed of its drivers
abbrev pub stops_on_interface : Lists → ℕ → List ℕ → List Pair
stops_on_interface l handle guid = stop_order (stop_to_free l handle guid)

-- before a handle can be disconnected, from one driver alone if it is not 0
abbrev pub stops_on_controller : Lists → ℕ → ℕ → List Pair
stops_on_controller l handle driver =
    stop_order (planned_stop l.handles l.opens (managers_meant l.opens handle driver))

-- the children of a pair
abbrev pub children : Lists → ℕ → ℕ → List ℕ
children l controller agent =
    children_of l.handles l.opens (record { controller = controller; agent = agent })
