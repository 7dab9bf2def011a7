use Rattle.std.proofs.Common.{◌≡◌, ◌+◌, List, map, refl, ap, subst, ◌∙◌, arith}
use Rattle.protocol_services.specs.Lists.{Lists}
use Rattle.protocol_services.specs.Removing.{Uninstalls}
use Rattle.boot_core.specs.Machines.{CoreValue, Given, Parts}
use Rattle.boot_core.proofs.Follows.{follows_now, follows_on}
use Rattle.boot_core.proofs.Serving.{open_rule}
use Rattle.boot_core.proofs.Soundness.{any_lists}
use Rattle.boot_core.proofs.services.Services.uninstall.Goals as goal

pub invariant_of-self : goal.invariant_of-self
invariant_of-self g c =
    let old : Parts = record { book = c.self.inside.book; pools = c.self.inside.pools.extents; lists = c.self.inside.protocols } in
    let follows = follows_now old c.self.inside.exited c.self.inside.calls_left _ c.begin.new.self c.self.view_is c.begin.ensures.follows in
    (follows_on old (record { book = old.book; pools = old.pools; lists = c.uninstall.new.self }) c.self.inside.calls_left follows (omega arith) c.uninstall.ensures.raised, any_lists old.book old.pools old.lists c.uninstall.new.self c.self.invariant.1)

pub returns-in-Ok-clause-step : goal.returns-in-Ok-clause-step
returns-in-Ok-clause-step g c =
    let old = c.args.self.now.state in
    let begun = c.begin.ensures in
    let parts : Parts = record { book = c.self.inside.book; pools = c.self.inside.pools.extents; lists = c.self.inside.protocols } in
    let same : parts ≡ old.parts = ap (λ (v : CoreValue g.row.D.Denot). v.state.parts) c.self.view_is ∙ begun.parts in
    let handed : c.self.inside.drivers.items ≡ c.args.self.now.given.drivers = ap (λ (v : CoreValue g.row.D.Denot). v.given.drivers) c.self.view_is ∙ ap (λ (v : Given g.row.D.Denot). v.drivers) begun.given in
    let here =
    subst (λ (ds : List g.row.D.Denot). Uninstalls (map g.D.Driver.meaning ds) c.self.inside.protocols c.args.handle c.args.guid c.args.value c.uninstall.result c.uninstall.new.self) (c.as_slice.ensures.value ∙ handed) c.uninstall.ensures.uninstalls
    in
    let served =
    subst (λ (l : Lists). Uninstalls (map g.D.Driver.meaning c.args.self.now.given.drivers) l c.args.handle c.args.guid c.args.value c.uninstall.result c.uninstall.new.self) (ap (λ (p : Parts). p.lists) same) here
    in
    let book = ap (λ (p : Parts). p.book) same in
    let pools = ap (λ (p : Parts). p.pools) same in
    record {
      answers = (c.uninstall.result, refl, open_rule old.exited old.parts (record { book = c.self.inside.book; pools = c.self.inside.pools.extents; lists = c.uninstall.new.self }) _ _ c.begin.result c.in-Ok.field-0 begun.answer c.in-Ok.is (served, book, pools));
      exited = ap (λ (v : CoreValue g.row.D.Denot). v.state.exited) c.self.view_is ∙ begun.exited;
      calls_left = ap (λ (v : CoreValue g.row.D.Denot). v.state.calls_left + 1) c.self.view_is ∙ begun.counted;
    }
