use Rattle.std.proofs.Common.{◌≡◌, ap, sym, subst, ◌∙◌, rules}
use Rattle.page_services.specs.PageRules.{Book}
use Rattle.boot_replies.specs.declared.replies.Reply.{Reply}
use Rattle.boot_core.specs.Machines.{CoreValue, Parts}
use Rattle.boot_core.specs.MapCalls.{AnswersMap, refused_map}
use Rattle.boot_core.specs.Steps.{exited_after}
use Rattle.boot_core.proofs.Serving.{open_rule, exited_refusal}
use Rattle.boot_core.proofs.services.Services.get_map_bytes.Goals.{in-Ok, in-Err}
use Rattle.boot_core.proofs.services.Services.get_map_bytes.Goals as goal

pub returns-clause-step : goal.returns-clause-step
returns-clause-step g c =
    let old = c.args.self.now.state in
    let new = c.begin.new.self.state in
    let begun = c.begin.ensures in
    let book : c.self.inside.book ≡ old.parts.book = ap (λ (v : CoreValue g.row.D.Denot). v.state.parts.book) c.self.view_is ∙ ap (λ (p : Parts). p.book) begun.parts in
    elim c.match-begin.branch [
      | in-Ok w ↦
          let answers = subst (λ (b : Book). AnswersMap b c.args.size w.map_in_buffer-bytes.result.0 w.map_in_buffer-bytes.result.1.items) book w.map_in_buffer-bytes.ensures in
          record {
            answers = (w.map_in_buffer-bytes.result.0, w.map_in_buffer-bytes.result.1, w.result-is, open_rule old.exited old.parts new.parts _ _ c.begin.result w.in-Ok.field-0 begun.answer w.in-Ok.is (answers, begun.parts));
            exited = begun.exited ∙ sym (ap (λ (a : Reply g.row.A.Denot). exited_after old.exited a) w.result-is);
            calls_left = begun.counted;
          }
      | in-Err w ↦
          record {
            answers = (w.refused_map.result, w.new.result, w.result-is, exited_refusal old.exited old.parts new.parts _ _ c.begin.result w.in-Err.status begun.answer w.in-Err.is (λ e. (w.refused_map.ensures ∙ ap refused_map e, search rules)) begun.parts);
            exited = begun.exited ∙ sym (ap (λ (a : Reply g.row.A.Denot). exited_after old.exited a) w.result-is);
            calls_left = begun.counted;
          }
    ]
