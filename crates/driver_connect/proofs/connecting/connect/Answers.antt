use Rattle.std.proofs.Common.{◌≡◌, false, ap, sym, ◌∙◌}
use Rattle.driver_connect.specs.Connecting.{first_progress}
use Rattle.driver_connect.specs.Starting.{Progress, is_any_carried_out, site_of, starts_on}
use Rattle.driver_connect.proofs.Idle.{idle_connect}
use Rattle.driver_connect.proofs.connecting.connect.Goals as goal

pub returns-in-Ok-false-default-clause-connects : goal.returns-in-Ok-false-default-clause-connects
returns-in-Ok-false-default-clause-connects g c =
    let begun = first_progress c.args.handles.now c.args.opens.now in
    let there = site_of g.D.Driver.meaning c.args.drivers.now c.args.notify.now c.args.handle in
    let h : is_any_carried_out (starts_on there c.args.named.now begun).starts ≡ false = rw c.new.ensures.items at (sym c.in-Ok-false-default.ensures.whole.0 ∙ c.in-Ok-false-default.field-0-0-test) in
    let e = (rw c.new.ensures.items at c.in-Ok-false-default.ensures.whole.1) ∙ idle_connect c.if-recursive.levels there c.args.named.now begun c.connect_in_place.ensures.proper h in
    (sym c.is_refused.ensures ∙ c.if-is_refused.false, h, ap (λ (p : Progress). p.handles) e, ap (λ (p : Progress). p.opens) e)
