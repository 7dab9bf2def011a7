use Rattle.std.proofs.Common.{ap, refl, sym, ◌∙◌, arith}
use Rattle.protocol_services.specs.Installing.{unless_path}
use Rattle.protocol_services.proofs.OpenCounts.{one_higher}
use Rattle.protocol_services.proofs.Raised.{stays_raised}
use Rattle.protocol_services.proofs.NewInterfaces.{no_refusal}
use Rattle.protocol_services.proofs.protocols.Protocols.install_many.Goals as goal

pub returns-in-Some-clause-installs : goal.returns-in-Some-clause-installs
returns-in-Some-clause-installs g c =
    let refused = sym (ap (unless_path c.args.has_path) c.install_many_refusal.ensures) ∙ sym c.unless_path-refusal.ensures ∙ c.in-Some.is in
    rw (← c.self.view_is) (rw refused (refl, refl), refl, refl)

pub returns-in-Some-clause-raised : goal.returns-in-Some-clause-raised
returns-in-Some-clause-raised g c = stays_raised c.args.self.now

pub returns-in_default-signaled-clause-installs : goal.returns-in_default-signaled-clause-installs
returns-in_default-signaled-clause-installs g c =
    let none = sym (ap (unless_path c.args.has_path) c.install_many_refusal.ensures) ∙ sym c.unless_path-refusal.ensures ∙ c.in_default.is in
    rw (← c.self.view_is) (rw none (refl, refl), refl, refl)

pub returns-in_default-signaled-clause-raised : goal.returns-in_default-signaled-clause-raised
returns-in_default-signaled-clause-raised g c = stays_raised c.args.self.now

pub install_many-requires-clause-numbers : goal.install_many-requires-clause-numbers
install_many-requires-clause-numbers g c = omega (arith, (rw (← c.self.view_is) at c.in-Ok.ensures.room).numbers)

pub install_many-requires-clause-stamps : goal.install_many-requires-clause-stamps
install_many-requires-clause-stamps g c = omega (arith, (rw (← c.self.view_is) at c.in-Ok.ensures.room).stamps)

pub returns-in_err-handle-clause-raised : goal.returns-in_err-handle-clause-raised
returns-in_err-handle-clause-raised g c = rw (← c.self.view_is) record {
  numbers = omega (arith, c.in_err-handle.ensures.numbers);
  stamps = omega (arith, c.in_err-handle.ensures.stamps);
  keys = omega arith;
  counts = λ n h. one_higher n c.self.inside.opens h;
}

pub returns-clause-installs : goal.returns-clause-installs
returns-clause-installs g c =
    let none = sym (ap (unless_path c.args.has_path) c.install_many_refusal.ensures) ∙ sym c.unless_path-refusal.ensures ∙ c.in_default.is in
    let installed = rw (no_refusal c.args.has_path _ none) at c.in_ok-handle.ensures.installs in
    rw (← c.self.view_is) ((rw none installed, refl, refl), rw (← c.self.view_is) at c.in-Ok.ensures.events)

pub returns-clause-raised : goal.returns-clause-raised
returns-clause-raised g c = rw (← c.self.view_is) record {
  numbers = omega (arith, c.in_ok-handle.ensures.numbers);
  stamps = omega (arith, c.in_ok-handle.ensures.stamps);
  keys = omega arith;
  counts = λ n h. one_higher n c.self.inside.opens h;
}
