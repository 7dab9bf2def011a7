use Rattle.std.proofs.Common.{◌≡◌, ◌==◌, true, length, sym, ◌∙◌}
use Rattle.std.proofs.lemmas.Bool.{not-true}
use Rattle.driver_connect.proofs.NoPairs.{none_in}
use Rattle.protocol_services.specs.Lists.{Lists}
use Rattle.protocol_services.proofs.Unopened.{no_handles_go, nothing_goes}
use Rattle.protocol_services.proofs.protocols.Protocols.saved_before.Goals as goal

pub returns-then-not-usage : goal.returns-then-not-usage
returns-then-not-usage g c =
    let l : Lists = record { handles = c.self.inside.handles; opens = c.self.inside.opens; registrations = c.self.inside.registrations } in
    rw (← c.self.view_is) (nothing_goes l c.args.handle c.args.guid (sym c.usage.ensures.open ∙ not-true c.usage.result.is_open c.if-not-usage.true))

pub returns : goal.returns
returns g c =
    let l : Lists = record { handles = c.self.inside.handles; opens = c.self.inside.opens; registrations = c.self.inside.registrations } in
    let none : (length c.args.plan.now.handles == 0) ≡ true = rw c.handles.ensures at (sym c.is_empty.ensures ∙ c.if-not-is_empty.false) in
    rw (← c.self.view_is) (no_handles_go l c.args.plan.now c.args.handle c.args.guid c.in_ok-opens.opens (rw (← c.self.view_is) at c.requires) (none_in c.args.plan.now.handles none) c.in_ok-opens.ensures)
