use Rattle.std.proofs.Common.{map, refl}
use Rattle.protocol_services.specs.Lists.{Lists}
use Rattle.protocol_services.proofs.Freed.{opened_stopped, opened_stopped_raised}
use Rattle.protocol_services.proofs.Raised.{stays_raised}
use Rattle.protocol_services.proofs.protocols.Protocols.open_after_stop.Goals as goal

pub returns-in-Ok-add_request-clause-opens : goal.returns-in-Ok-add_request-clause-opens
returns-in-Ok-add_request-clause-opens g c =
    let l : Lists = record { handles = c.self.inside.handles; opens = c.self.inside.opens; registrations = c.self.inside.registrations } in
    rw (← c.self.view_is)
    (opened_stopped (map g.D.Driver.meaning c.args.drivers.now) l (record { handles = c.carry_out.new.handles; opens = c.carry_out.new.opens; registrations = l.registrations }) c.in-Ok.plan c.args.manager c.args.request.now.handle c.args.request.now.guid (record { agent = c.args.request.now.agent; controller = c.args.request.now.controller })
    c.args.request.now.attributes c.in-Ok-true.field-0 c.returned_value-value.result c.add_request.new.self (rw (c.lists.ensures.handles, c.lists.ensures.opens, ← c.self.view_is) at c.in-Ok.ensures) (rw (c.lists-2.ensures.handles, c.lists-2.ensures.opens, ← c.self.view_is) at c.in-Ok-true.ensures) c.in-Ok-true.field-0-test c.in-Ok-add_request.ensures.ok
    (rw c.carry_out.ensures.handles (rw c.carry_out.ensures.opens refl)) (rw c.interface.ensures.value at c.returned_value-value.ensures))

pub returns-in-Ok-add_request-clause-raised : goal.returns-in-Ok-add_request-clause-raised
returns-in-Ok-add_request-clause-raised g c =
    let l : Lists = record { handles = c.self.inside.handles; opens = c.self.inside.opens; registrations = c.self.inside.registrations } in
    rw (← c.self.view_is)
    (opened_stopped_raised l (record { handles = c.carry_out.new.handles; opens = c.carry_out.new.opens; registrations = l.registrations }) c.in-Ok.plan c.args.request.now.handle c.args.request.now.guid c.args.request.now.agent c.args.request.now.controller c.args.request.now.attributes c.add_request.new.self
    c.in-Ok-add_request.ensures.ok (rw c.carry_out.ensures.handles (rw c.carry_out.ensures.opens refl)))

pub returns-clause-raised : goal.returns-clause-raised
returns-clause-raised g c =
    let l : Lists = record { handles = c.self.inside.handles; opens = c.self.inside.opens; registrations = c.self.inside.registrations } in
    rw (← c.self.view_is) (rw c.in-Err-add_request.ensures.err (stays_raised l))

pub returns-in_default-clause-raised : goal.returns-in_default-clause-raised
returns-in_default-clause-raised g c = stays_raised c.args.self.now

pub returns-in-Ok-false-clause-raised : goal.returns-in-Ok-false-clause-raised
returns-in-Ok-false-clause-raised g c = stays_raised c.args.self.now

pub returns-in-Err-clause-raised : goal.returns-in-Err-clause-raised
returns-in-Err-clause-raised g c = stays_raised c.args.self.now
