use Rattle.protocol_services.proofs.protocols.Protocols.stops_on_controller.Goals as goal

pub returns : goal.returns
returns g c = rw (c.lists.ensures.handles, c.lists.ensures.opens) at c.managers_to_stop.ensures
