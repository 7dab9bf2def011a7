use Rattle.std.proofs.Common.{◌≡◌, drop}
use Rattle.driver_connect.specs.GoingOn.{GoesOn}
use Rattle.driver_connect.specs.Room.{HasRoom, Grows}
use Rattle.driver_connect.specs.Sites.{site_at}
use Rattle.driver_connect.specs.Starting.{joined, pass, protocols_at}
use Rattle.driver_connect.proofs.starting.Starter.run_pass.Given as goal

abbrev pub invariant-loop-agent : goal.invariant-loop-agent
invariant-loop-agent g l = record {
  whole :
      joined l.pass.starts.items l.pass.left.items (pass (site_at g.D.Driver.meaning l.self l.controller) (drop l.agent-index l.agents) l.connecting)
      ≡ pass (site_at g.D.Driver.meaning l.self l.controller) l.agents l.fn.connecting;
  protocols : l.protocols.items ≡ protocols_at l.connecting l.controller;
  grows : Grows l.fn.connecting.handles l.connecting.handles;
  goes_on : GoesOn l.fn.connecting l.connecting;
  room : HasRoom l.connecting.handles;
}
