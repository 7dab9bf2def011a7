use Rattle.protocol_services.proofs.Raised.{stays_raised}
use Rattle.protocol_services.proofs.protocols.Protocols.locate_protocol.Goals as goal

pub returns-then-key-eq0-clause-locates : goal.returns-then-key-eq0-clause-locates
returns-then-key-eq0-clause-locates g c = rw c.if-key-eq0.true c.lowest_value.ensures

pub returns-then-key-eq0-clause-raised : goal.returns-then-key-eq0-clause-raised
returns-then-key-eq0-clause-raised g c = stays_raised c.args.self.now

pub returns-in-Some-clause-locates : goal.returns-in-Some-clause-locates
returns-in-Some-clause-locates g c = c.next_value.ensures

pub returns-in_default-clause-raised : goal.returns-in_default-clause-raised
returns-in_default-clause-raised g c = stays_raised c.args.self.now

pub returns-in_default-2-clause-raised : goal.returns-in_default-2-clause-raised
returns-in_default-2-clause-raised g c = stays_raised c.args.self.now
