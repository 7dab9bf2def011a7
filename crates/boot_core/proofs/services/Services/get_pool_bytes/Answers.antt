use Rattle.std.proofs.Common.{◌≡◌, List, ap, sym, subst, ◌∙◌, rules}
use Rattle.pool_services.specs.Extents.{Extent}
use Rattle.boot_replies.specs.declared.replies.Reply.{Reply}
use Rattle.boot_core.specs.Machines.{CoreValue, Parts}
use Rattle.boot_core.specs.PoolCalls.{AnswersRead}
use Rattle.boot_core.specs.Steps.{exited_after}
use Rattle.boot_core.proofs.Serving.{open_rule, exited_refusal}
use Rattle.boot_core.proofs.services.Services.get_pool_bytes.Goals.{in-Ok, in-Err}
use Rattle.boot_core.proofs.services.Services.get_pool_bytes.Goals as goal

pub returns-clause-step : goal.returns-clause-step
returns-clause-step g c =
    let old = c.args.self.now.state in
    let new = c.begin.new.self.state in
    let begun = c.begin.ensures in
    let pools : c.self-2.inside.pools.extents ≡ old.parts.pools = ap (λ (v : CoreValue g.row.D.Denot). v.state.parts.pools) c.self-2.view_is ∙ ap (λ (p : Parts). p.pools) begun.parts in
    elim c.match-begin.branch [
      | in-Ok w ↦
          let answers = subst (λ (es : List Extent). AnswersRead es c.args.address c.args.size w.read_bytes-status.result.0 w.read_bytes-status.result.1.items) pools w.read_bytes-status.ensures in
          record {
            answers = (w.read_bytes-status.result.0, w.read_bytes-status.result.1, w.result-is, open_rule old.exited old.parts new.parts _ _ c.begin.result w.in-Ok.field-0 begun.answer w.in-Ok.is (answers, begun.parts));
            exited = begun.exited ∙ sym (ap (λ (a : Reply g.row.A.Denot). exited_after old.exited a) w.result-is);
            calls_left = begun.counted;
          }
      | in-Err w ↦
          record {
            answers = (w.in-Err.status, w.new.result, w.result-is, exited_refusal old.exited old.parts new.parts _ _ c.begin.result w.in-Err.status begun.answer w.in-Err.is (λ e. (e, search rules)) begun.parts);
            exited = begun.exited ∙ sym (ap (λ (a : Reply g.row.A.Denot). exited_after old.exited a) w.result-is);
            calls_left = begun.counted;
          }
    ]
