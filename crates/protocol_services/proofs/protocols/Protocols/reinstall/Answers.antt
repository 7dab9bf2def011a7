use Rattle.std.proofs.Common.{map, refl}
use Rattle.protocol_services.proofs.Raised.{stays_raised}
use Rattle.protocol_services.proofs.Freed.{carried_freed, not_refused, reinstalls, served_carries}
use Rattle.protocol_services.proofs.protocols.Protocols.reinstall.Goals as goal

pub replace_freed-requires-clause-there : goal.replace_freed-requires-clause-there
replace_freed-requires-clause-there g c =
    carried_freed (map g.D.Driver.meaning c.args.drivers.now) c.args.self.now c.args.handle c.args.guid c.in_ok-plan.ensures.0
    (served_carries c.args.self.now.handles c.args.handle c.args.guid c.args.old_value
    (not_refused c.args.self.now _ c.args.handle c.args.guid c.args.old_value c.removal_refusal.result c.self.view_is c.removal_refusal.ensures c.in_default.not-Some))

pub returns-in-Ok-clause-reinstalls : goal.returns-in-Ok-clause-reinstalls
returns-in-Ok-clause-reinstalls g c =
    reinstalls (map g.D.Driver.meaning c.args.drivers.now) c.args.self.now c.replace_freed.new.self c.args.handle c.args.guid c.args.old_value c.args.new_value c.in-Ok.events
    (not_refused c.args.self.now _ c.args.handle c.args.guid c.args.old_value c.removal_refusal.result c.self.view_is c.removal_refusal.ensures c.in_default.not-Some) c.in_ok-plan.ensures.0 c.in-Ok.ensures.ok

pub returns-in-Some-clause-raised : goal.returns-in-Some-clause-raised
returns-in-Some-clause-raised g c = stays_raised c.args.self.now

pub returns-in_err-plan-clause-raised : goal.returns-in_err-plan-clause-raised
returns-in_err-plan-clause-raised g c = stays_raised c.args.self.now

pub returns-then-not-has_room-clause-raised : goal.returns-then-not-has_room-clause-raised
returns-then-not-has_room-clause-raised g c = stays_raised c.args.self.now

pub returns-then-not-has_room-clause-reinstalls : goal.returns-then-not-has_room-clause-reinstalls
returns-then-not-has_room-clause-reinstalls g c = rw (not_refused c.args.self.now _ c.args.handle c.args.guid c.args.old_value c.removal_refusal.result c.self.view_is c.removal_refusal.ensures c.in_default.not-Some) refl

pub returns-clause-reinstalls : goal.returns-clause-reinstalls
returns-clause-reinstalls g c = rw (not_refused c.args.self.now _ c.args.handle c.args.guid c.args.old_value c.removal_refusal.result c.self.view_is c.removal_refusal.ensures c.in_default.not-Some) c.in-Err.ensures.err

pub replace_freed-requires-clause-plan : goal.replace_freed-requires-clause-plan
replace_freed-requires-clause-plan g c = c.in_ok-plan.ensures.1

pub replace_freed-requires-clause-room : goal.replace_freed-requires-clause-room
replace_freed-requires-clause-room g c = c.has_room.ensures.0 c.if-not-has_room.false

pub returns-in-Ok-clause-raised : goal.returns-in-Ok-clause-raised
returns-in-Ok-clause-raised g c = c.in-Ok.ensures.raised

pub returns-clause-raised : goal.returns-clause-raised
returns-clause-raised g c = c.in-Err.ensures.raised
