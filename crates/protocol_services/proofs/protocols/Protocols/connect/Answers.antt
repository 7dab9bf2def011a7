use Rattle.std.proofs.Common.{arith}
use Rattle.protocol_services.proofs.Raised.{connect_raises}
use Rattle.protocol_services.proofs.protocols.Protocols.connect.Goals as goal

pub returns-clause-raised : goal.returns-clause-raised
returns-clause-raised g c = rw (← c.self.view_is) record {
  numbers = omega (arith, c.connect.ensures.numbers);
  stamps = omega (arith, c.connect.ensures.stamps);
  keys = omega arith;
  counts = λ n h. connect_raises _ c.args.named.now c.args.recursive c.self.inside.handles c.self.inside.opens _ c.connect.new.handles c.connect.new.opens c.connect.ensures.connects n h;
}
