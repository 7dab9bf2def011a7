use Rattle.protocol_services.proofs.protocols.Protocols.children.Goals as goal

pub returns : goal.returns
returns g c = rw (c.lists.ensures.handles, c.lists.ensures.opens) at c.children_of.ensures
