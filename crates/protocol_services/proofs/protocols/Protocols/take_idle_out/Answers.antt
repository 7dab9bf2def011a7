use Rattle.protocol_services.proofs.protocols.Protocols.take_idle_out.Goals as goal

pub returns : goal.returns
returns g c = rw (← c.self.view_is) (rw c.drop_items.ensures at c.take_out.ensures)
