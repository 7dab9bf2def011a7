use Rattle.std.proofs.Common.{◌≡◌, ◌++◌, map, drop}
use Rattle.guid_handles.specs.HandleTables.{interfaces_on}
use Rattle.driver_connect.specs.Drivers.{protocol_view, protocols_on}
use Rattle.driver_connect.proofs.protocols.Lists.protocols_on.Given as goal

abbrev pub invariant-loop-at : goal.invariant-loop-at
invariant-loop-at g l = l.found.items ++ map (protocol_view l.self.opens.now) (drop l.at (interfaces_on l.self.handles.now l.handle)) ≡ protocols_on l.self.handles.now l.self.opens.now l.handle
