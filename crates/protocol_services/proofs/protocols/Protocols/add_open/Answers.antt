use Rattle.std.proofs.Common.{arith}
use Rattle.protocol_services.proofs.OpenCounts.{one_higher, opened_counts}
use Rattle.protocol_services.proofs.protocols.Protocols.add_open.Goals as goal
use Rattle.protocol_services.proofs.protocols.Protocols.add_open.Goals.{in-Ok, in-Err}

pub returns-clause-raised : goal.returns-clause-raised
returns-clause-raised g c = rw (← c.self.view_is) (elim c.match-add_new.branch [
  | in-Ok w ↦ rw w.in-Ok.ensures.ok record {
    numbers = omega arith;
    stamps = omega arith;
    keys = omega arith;
    counts = λ n h. opened_counts c.args.request.now.handle c.args.request.now.guid c.args.request.now.agent c.args.request.now.controller c.args.request.now.attributes c.self.inside.opens n h;
  }
  | in-Err w ↦ rw w.in-Err.ensures.err record {
    numbers = omega arith;
    stamps = omega arith;
    keys = omega arith;
    counts = λ n h. one_higher n c.self.inside.opens h;
  }
])
