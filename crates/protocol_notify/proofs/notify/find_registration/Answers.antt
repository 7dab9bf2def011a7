use Rattle.std.proofs.Common.{◌-◌, arith, sym, ◌∙◌}
use Rattle.protocol_notify.proofs.Keyed.{found_at, none_at_zero}
use Rattle.protocol_notify.proofs.notify.find_registration.Goals as goal

pub returns-then-key-eq0 : goal.returns-then-key-eq0
returns-then-key-eq0 c = sym (none_at_zero _ c.args.key c.requires c.if-key-eq0.true)

pub returns : goal.returns
returns c = c.registration_at.ensures ∙ sym (found_at c.args.registrations.now c.args.key (c.args.key - 1) c.requires (omega (arith, c.if-key-eq0.false)))
