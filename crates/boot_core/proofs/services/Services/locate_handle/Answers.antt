use Rattle.std.proofs.Common.{◌≡◌, ◌+◌, refl, ap, subst, ◌∙◌, rules}
use Rattle.protocol_services.specs.Lists.{Lists}
use Rattle.protocol_services.specs.Searches.{LocatesHandles}
use Rattle.boot_core.specs.Machines.{CoreValue, Parts}
use Rattle.boot_core.proofs.Serving.{open_rule, exited_refusal}
use Rattle.boot_core.proofs.services.Services.locate_handle.Goals as goal

pub returns-in-Ok-clause-step : goal.returns-in-Ok-clause-step
returns-in-Ok-clause-step g c =
    let old = c.args.self.now.state in
    let begun = c.begin.ensures in
    let parts : Parts = record { book = c.self.inside.book; pools = c.self.inside.pools.extents; lists = c.self.inside.protocols } in
    let same : parts ≡ old.parts = ap (λ (v : CoreValue g.row.D.Denot). v.state.parts) c.self.view_is ∙ begun.parts in
    let locates = subst (λ (l : Lists). LocatesHandles l c.args.search c.args.guid c.args.key c.args.size c.locate.result c.locate.new.self) (ap (λ (p : Parts). p.lists) same) c.locate.ensures.locates in
    let book = ap (λ (p : Parts). p.book) same in
    let pools = ap (λ (p : Parts). p.pools) same in
    record {
      answers = (c.locate.result, refl, open_rule old.exited old.parts (record { book = c.self.inside.book; pools = c.self.inside.pools.extents; lists = c.locate.new.self }) _ _ c.begin.result c.in-Ok.field-0 begun.answer c.in-Ok.is (locates, book, pools));
      exited = ap (λ (v : CoreValue g.row.D.Denot). v.state.exited) c.self.view_is ∙ begun.exited;
      calls_left = ap (λ (v : CoreValue g.row.D.Denot). v.state.calls_left + 1) c.self.view_is ∙ begun.counted;
    }

pub returns-in-Err-clause-step : goal.returns-in-Err-clause-step
returns-in-Err-clause-step g c =
    let old = c.args.self.now.state in
    let begun = c.begin.ensures in
    record {
      answers = (_, refl, exited_refusal old.exited old.parts c.begin.new.self.state.parts _ _ c.begin.result c.in-Err.status begun.answer c.in-Err.is (λ e. (e, refl, search rules)) begun.parts);
      exited = begun.exited;
      calls_left = begun.counted;
    }
