use Rattle.std.proofs.Common.{◌≡◌, true, false, map, None, sym, ap, ◌∙◌}
use Rattle.protocol_services.specs.Lists.{Lists}
use Rattle.protocol_services.specs.Removing.{removal_refusal, uninstalled}
use Rattle.protocol_services.proofs.Raised.{stays_raised}
use Rattle.protocol_services.proofs.Unopened.{in_place_raised, kept_in_place, uninstalled_in_place}
use Rattle.protocol_services.proofs.FreeToGo.{free_parts}
use Rattle.protocol_services.proofs.Freed.{carried_freed, none_left, not_refused, served_carries, uninstalled_raised}
use Rattle.protocol_services.proofs.protocols.Protocols.uninstall.Goals as goal

pub free-requires : goal.free-requires
free-requires g c = c.in_ok-plan.ensures.1

pub take_out-requires : goal.take_out-requires
take_out-requires g c =
    rw c.free.ensures
    (carried_freed (map g.D.Driver.meaning c.args.drivers.now) c.args.self.now c.args.handle c.args.guid c.in_ok-plan.ensures.0
    (served_carries c.args.self.now.handles c.args.handle c.args.guid c.args.value
    (not_refused c.args.self.now _ c.args.handle c.args.guid c.args.value c.removal_refusal.result c.self.view_is c.removal_refusal.ensures c.in_default.not-Some)))

pub returns-then-is_driven-clause-uninstalls : goal.returns-then-is_driven-clause-uninstalls
returns-then-is_driven-clause-uninstalls g c =
    rw (not_refused c.args.self.now _ c.args.handle c.args.guid c.args.value c.removal_refusal.result c.self.view_is c.removal_refusal.ensures c.in_default.not-Some)
    (c.in_ok-plan.ensures.0, c.take_out.ensures ∙ ap (uninstalled c.args.handle c.args.guid) c.free.ensures)

pub returns-then-is_driven-clause-raised : goal.returns-then-is_driven-clause-raised
returns-then-is_driven-clause-raised g c = rw c.take_out.ensures (uninstalled_raised c.args.self.now c.free.new.self c.args.handle c.args.guid c.free.ensures)

pub returns-in_err-plan-clause-raised : goal.returns-in_err-plan-clause-raised
returns-in_err-plan-clause-raised g c = stays_raised c.args.self.now

pub returns-then-is_kept-clause-uninstalls : goal.returns-then-is_kept-clause-uninstalls
returns-then-is_kept-clause-uninstalls g c =
    let l : Lists = record { handles = c.self.inside.handles; opens = c.self.inside.opens; registrations = c.self.inside.registrations } in
    let none : removal_refusal l.handles c.args.handle c.args.guid c.args.value ≡ None = sym c.removal_refusal.ensures ∙ none_left c.removal_refusal.result c.in_default.not-Some in
    rw (← c.self.view_is)
    (kept_in_place (map g.D.Driver.meaning c.args.drivers.now) l c.args.handle c.args.guid c.args.value none (sym c.usage-is_open.ensures.driven ∙ c.if-is_driven.false) (sym c.usage-is_open.ensures.kept ∙ c.if-is_kept.true))

pub returns-then-is_kept-clause-raised : goal.returns-then-is_kept-clause-raised
returns-then-is_kept-clause-raised g c = stays_raised c.args.self.now

pub take_idle_out-requires-clause-there : goal.take_idle_out-requires-clause-there
take_idle_out-requires-clause-there g c =
    let l : Lists = record { handles = c.self.inside.handles; opens = c.self.inside.opens; registrations = c.self.inside.registrations } in
    let none : removal_refusal l.handles c.args.handle c.args.guid c.args.value ≡ None = sym c.removal_refusal.ensures ∙ none_left c.removal_refusal.result c.in_default.not-Some in
    rw (← c.self.view_is) (served_carries l.handles c.args.handle c.args.guid c.args.value none)

pub returns-clause-uninstalls : goal.returns-clause-uninstalls
returns-clause-uninstalls g c =
    let l : Lists = record { handles = c.self.inside.handles; opens = c.self.inside.opens; registrations = c.self.inside.registrations } in
    let none : removal_refusal l.handles c.args.handle c.args.guid c.args.value ≡ None = sym c.removal_refusal.ensures ∙ none_left c.removal_refusal.result c.in_default.not-Some in
    rw (c.take_idle_out.ensures, ← c.self.view_is)
    (uninstalled_in_place (map g.D.Driver.meaning c.args.drivers.now) l c.args.handle c.args.guid c.args.value none (sym c.usage-is_open.ensures.driven ∙ c.if-is_driven.false) (sym c.usage-is_open.ensures.kept ∙ c.if-is_kept.false))

pub returns-clause-raised : goal.returns-clause-raised
returns-clause-raised g c =
    let l : Lists = record { handles = c.self.inside.handles; opens = c.self.inside.opens; registrations = c.self.inside.registrations } in
    rw (c.take_idle_out.ensures, ← c.self.view_is) (in_place_raised l c.args.handle c.args.guid (sym c.usage-is_open.ensures.driven ∙ c.if-is_driven.false))

pub returns-in-Some-clause-free : goal.returns-in-Some-clause-free
returns-in-Some-clause-free g c = λ f.
    let l : Lists = record { handles = c.self.inside.handles; opens = c.self.inside.opens; registrations = c.self.inside.registrations } in
    let free = free_parts l c.args.handle (c.args.guid, c.args.value) (rw (← c.self.view_is) at f) in
    absurd (let e = c.in-Some.ensures ∙ free.none in cc)

pub returns-in_err-plan-clause-free : goal.returns-in_err-plan-clause-free
returns-in_err-plan-clause-free g c = λ f.
    let l : Lists = record { handles = c.self.inside.handles; opens = c.self.inside.opens; registrations = c.self.inside.registrations } in
    let free = free_parts l c.args.handle (c.args.guid, c.args.value) (rw (← c.self.view_is) at f) in
    absurd (let e : true ≡ false = sym c.if-is_driven.true ∙ c.usage-is_open.ensures.driven ∙ free.driven in cc)

pub returns-then-is_kept-clause-free : goal.returns-then-is_kept-clause-free
returns-then-is_kept-clause-free g c = λ f.
    let l : Lists = record { handles = c.self.inside.handles; opens = c.self.inside.opens; registrations = c.self.inside.registrations } in
    let free = free_parts l c.args.handle (c.args.guid, c.args.value) (rw (← c.self.view_is) at f) in
    absurd (let e : true ≡ false = sym c.if-is_kept.true ∙ c.usage-is_open.ensures.kept ∙ free.kept in cc)
