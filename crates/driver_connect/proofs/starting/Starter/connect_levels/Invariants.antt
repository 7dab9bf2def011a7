use Rattle.std.proofs.Common.{◌≡◌, ◌+◌, ◌-◌, ◌≤◌, map, length}
use Rattle.guid_handles.specs.HandleChanges.{max_handles}
use Rattle.driver_connect.specs.Connecting.{connected}
use Rattle.driver_connect.specs.GoingOn.{GoesOn}
use Rattle.driver_connect.specs.Pending.{all_connected}
use Rattle.driver_connect.specs.Room.{HasRoom, Grows}
use Rattle.driver_connect.specs.Starting.{site}
use Rattle.driver_connect.proofs.starting.Starter.connect_levels.Given as goal

abbrev pub invariant-loop-next : goal.invariant-loop-next
invariant-loop-next g l = record {
  progress :
      all_connected (map g.D.Driver.meaning l.self.drivers.now) l.self.notify.now l.pending.items l.connecting
      ≡ connected l.fn.first.levels (site (map g.D.Driver.meaning l.self.drivers.now) l.self.notify.now l.fn.first.handle) l.named l.fn.connecting;
  limit : length l.connecting.handles.handles ≤ max_handles;
  grows : Grows l.fn.connecting.handles l.connecting.handles;
  goes_on : GoesOn l.fn.connecting l.connecting;
  room : HasRoom l.connecting.handles;
}

-- a handle that is made takes the place of one that may be
abbrev pub decreases-loop-next : goal.decreases-loop-next
decreases-loop-next g l = max_handles - length l.connecting.handles.handles + length l.pending.items
