use Rattle.protocol_services.proofs.Carried.{first_carries}
use Rattle.protocol_services.proofs.protocols.Protocols.lowest_value.Goals as goal

pub value_on-requires : goal.value_on-requires
value_on-requires g c = rw (← c.self.view_is) (first_carries c.self.inside.handles c.args.guid c.in-Some.handle.now (rw c.by_protocol.ensures at c.in-Some.ensures.value))
