use Rattle.std.proofs.Common.{[], ◌∷◌, ap, refl, ◌∙◌, arith}
use Rattle.protocol_services.specs.Installing.{or_out_of_memory}
use Rattle.protocol_services.proofs.OpenCounts.{one_higher}
use Rattle.protocol_services.proofs.Raised.{stays_raised}
use Rattle.protocol_services.proofs.NewInterfaces.{not_installed}
use Rattle.protocol_services.proofs.protocols.Protocols.install.Goals as goal

pub returns-in_default-clause-installs : goal.returns-in_default-clause-installs
returns-in_default-clause-installs g c =
    let refusal = c.or_out_of_memory.ensures ∙ ap or_out_of_memory c.install_refusal-refusal.ensures in
    rw (← c.self.view_is) (not_installed c.self.inside.handles c.args.handle ((c.args.guid, c.args.value) ∷ []) _ _ refusal, refl, refl)

pub returns-in_default-clause-raised : goal.returns-in_default-clause-raised
returns-in_default-clause-raised g c = stays_raised c.args.self.now

pub install-requires-clause-numbers : goal.install-requires-clause-numbers
install-requires-clause-numbers g c = omega (arith, (rw (← c.self.view_is) at c.in-Ok.ensures.room).numbers)

pub install-requires-clause-stamps : goal.install-requires-clause-stamps
install-requires-clause-stamps g c = omega (arith, (rw (← c.self.view_is) at c.in-Ok.ensures.room).stamps)

pub returns-in_err-handle-clause-raised : goal.returns-in_err-handle-clause-raised
returns-in_err-handle-clause-raised g c = rw (← c.self.view_is) record {
  numbers = omega (arith, c.in_err-handle.ensures.numbers);
  stamps = omega (arith, c.in_err-handle.ensures.stamps);
  keys = omega arith;
  counts = λ n h. one_higher n c.self.inside.opens h;
}

pub returns-clause-installs : goal.returns-clause-installs
returns-clause-installs g c = rw (← c.self.view_is) ((c.in_ok-handle.ensures.installs, refl, refl), rw (← c.self.view_is) at c.in-Ok.ensures.events)

pub returns-clause-raised : goal.returns-clause-raised
returns-clause-raised g c = rw (← c.self.view_is) record {
  numbers = omega (arith, c.in_ok-handle.ensures.numbers);
  stamps = omega (arith, c.in_ok-handle.ensures.stamps);
  keys = omega arith;
  counts = λ n h. one_higher n c.self.inside.opens h;
}
