use Rattle.std.proofs.Common.{◌≡◌, ◌-◌, [], length}
use Rattle.driver_connect.specs.GoingOn.{GoesOn}
use Rattle.driver_connect.specs.Room.{HasRoom, Grows}
use Rattle.driver_connect.specs.Sites.{site_at}
use Rattle.driver_connect.specs.Starting.{joined, passes}
use Rattle.driver_connect.proofs.starting.Starter.run_passes_over.Given as goal

abbrev pub invariant-loop-k : goal.invariant-loop-k
invariant-loop-k g l = record {
  whole :
      joined l.starts.items [] (passes (length l.initial.left.items - l.k) (site_at g.D.Driver.meaning l.self l.controller) l.left.items l.connecting)
      ≡ passes (length l.initial.left.items) (site_at g.D.Driver.meaning l.self l.controller) l.initial.left.items l.fn.connecting;
  count : l.count ≡ length l.initial.left.items;
  grows : Grows l.fn.connecting.handles l.connecting.handles;
  goes_on : GoesOn l.fn.connecting l.connecting;
  room : HasRoom l.connecting.handles;
}
