use Rattle.std.proofs.Common.{◌∙◌, sym, arith}
use Rattle.page_ranges.specs.Runs.{pages_of}
use Rattle.plain_search.proofs.PlainSearch.{not_in_run, in_run, available_in_run}
use Rattle.plain_search.proofs.plain.is_available.Goals as goal
use Rattle.plain_search.proofs.plain.is_available.Goals.{else-run-page-via-then-run-page+else-page-run, else-run-page-via-else-run-page}

pub returns-then-page-run : goal.returns-then-page-run
returns-then-page-run c =
    let r = c.run-item.result in
    let found = in_run c.args.runs.now c.loop-run.run-index c.args.page r (omega arith) c.run-item.is (omega arith) (omega arith) in
    let available = available_in_run (pages_of c.args.runs.now) c.args.page r (sym c.loop-run.invariant ∙ found) in
    (λ h. available.0 (c.is_available_run.ensures.0 h), λ h. c.is_available_run.ensures.1 (available.1 h))

pub loop-run-preserved : goal.loop-run-preserved
loop-run-preserved c = elim c.else-run-page.branch [
  | else-run-page-via-then-run-page+else-page-run w ↦ not_in_run c.args.runs.now c.loop-run.run-index c.args.page c.run-item.result (omega arith) c.run-item.is (λ h. omega arith) ∙ c.loop-run.invariant
  | else-run-page-via-else-run-page w ↦ not_in_run c.args.runs.now c.loop-run.run-index c.args.page c.run-item.result (omega arith) c.run-item.is (λ h. omega arith) ∙ c.loop-run.invariant
]
