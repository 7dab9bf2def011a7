use Rattle.protocol_services.specs.Lists.{Lists}
use Rattle.protocol_services.proofs.Freed.{free_leaves}
use Rattle.protocol_services.proofs.protocols.Protocols.free.Goals as goal

pub returns : goal.returns
returns g c =
    let l : Lists = record { handles = c.self.inside.handles; opens = c.self.inside.opens; registrations = c.self.inside.registrations } in
    rw (← c.self.view_is)
    (free_leaves l c.args.handle c.args.guid c.args.plan.now c.carry_out.new.handles c.drop_interface.new.self (rw (← c.self.view_is) at c.requires) c.carry_out.ensures.handles
    (rw c.carry_out.ensures.opens at c.drop_interface.ensures))
