use Rattle.std.proofs.Common.{◌≡◌, is_some, true, false, refl, sym, ap, not, ◌∙◌}
use Rattle.std.proofs.lemmas.Bool.{not-false, not-true}
use Rattle.protocol_services.specs.Removing.{removal_refusal}
use Rattle.protocol_services.proofs.protocols.Protocols.is_free_to_go.Goals as goal

pub returns-then-is_some : goal.returns-then-is_some
returns-then-is_some g c =
    let refused : is_some (removal_refusal c.self.inside.handles c.args.handle c.args.pair.now.0 c.args.pair.now.1) ≡ true = ap is_some (sym c.removal_refusal.ensures) ∙ sym c.is_some.ensures ∙ c.if-is_some.true in
    rw (← c.self.view_is) (rw refused refl)

pub returns-then-not-usage : goal.returns-then-not-usage
returns-then-not-usage g c =
    let served : is_some (removal_refusal c.self.inside.handles c.args.handle c.args.pair.now.0 c.args.pair.now.1) ≡ false = ap is_some (sym c.removal_refusal.ensures) ∙ sym c.is_some.ensures ∙ c.if-is_some.false in
    let idle = sym c.usage-usage.ensures.driven ∙ not-true c.usage-usage.result.is_driven c.if-not-usage.true in
    rw (← c.self.view_is) (rw (served, idle) (ap not c.usage-usage.ensures.kept))

pub returns-else-not-usage : goal.returns-else-not-usage
returns-else-not-usage g c =
    let served : is_some (removal_refusal c.self.inside.handles c.args.handle c.args.pair.now.0 c.args.pair.now.1) ≡ false = ap is_some (sym c.removal_refusal.ensures) ∙ sym c.is_some.ensures ∙ c.if-is_some.false in
    let driven = sym c.usage-usage.ensures.driven ∙ not-false c.usage-usage.result.is_driven c.if-not-usage.false in
    rw (← c.self.view_is) (rw (served, driven) c.if-not-usage.false)
