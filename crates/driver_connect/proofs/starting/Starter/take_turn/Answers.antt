use Rattle.std.proofs.Common.{◌≡◌, true, false, sym, ap, ◌∙◌, rules}
use Rattle.driver_connect.specs.Starting.{Progress, is_carried_out, is_supported, site_of}
use Rattle.driver_connect.proofs.GoingOn.{goes_nowhere}
use Rattle.driver_connect.proofs.Passes.{turn_of}
use Rattle.driver_connect.proofs.starting.Starter.take_turn.Goals as goal

pub returns-then-not-supports_at-clause-goes_on : goal.returns-then-not-supports_at-clause-goes_on
returns-then-not-supports_at-clause-goes_on g c = goes_nowhere c.args.connecting.now

pub returns-then-not-can_start-clause-goes_on : goal.returns-then-not-can_start-clause-goes_on
returns-then-not-can_start-clause-goes_on g c = goes_nowhere c.args.connecting.now

pub returns-then-not-can_start-clause-turn : goal.returns-then-not-can_start-clause-turn
returns-then-not-can_start-clause-turn g c =
    let site = site_of g.D.Driver.meaning c.args.self.now.drivers.now c.args.self.now.notify.now c.args.controller in
    let table = ap (λ (p : Progress). p.handles) c.connecting.view_is in
    let s : is_supported site c.args.connecting.now c.args.agent.now ≡ true = rw c.requires.protocols at (sym c.supports_at.ensures.supports ∙ c.if-not-supports_at.false) in
    let k : is_carried_out site c.args.connecting.now c.args.agent.now ≡ false = rw (c.plan_at-plan.ensures, c.requires.protocols, table) at (sym c.can_start.ensures ∙ c.if-not-can_start.true) in
    turn_of site c.args.connecting.now c.args.agent.now false s k

pub carry_out-requires-clause-can : goal.carry_out-requires-clause-can
carry_out-requires-clause-can g c =
    let table = ap (λ (p : Progress). p.handles) c.connecting.view_is in
    rw (c.requires.protocols, table) at (sym c.can_start.ensures ∙ c.if-not-can_start.false)

pub returns-clause-turn : goal.returns-clause-turn
returns-clause-turn g c =
    let site = site_of g.D.Driver.meaning c.args.self.now.drivers.now c.args.self.now.notify.now c.args.controller in
    let table = ap (λ (p : Progress). p.handles) c.connecting.view_is in
    let s : is_supported site c.args.connecting.now c.args.agent.now ≡ true = rw c.requires.protocols at (sym c.supports_at.ensures.supports ∙ c.if-not-supports_at.false) in
    let k : is_carried_out site c.args.connecting.now c.args.agent.now ≡ true = rw (c.plan_at-plan.ensures, c.requires.protocols, table) at (sym c.can_start.ensures ∙ c.if-not-can_start.false) in
    let t = turn_of site c.args.connecting.now c.args.agent.now true s k in
    (t.0, search rules)
