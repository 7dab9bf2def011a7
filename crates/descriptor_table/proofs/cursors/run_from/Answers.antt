use Rattle.std.proofs.Common.{◌+◌, ap, arith}
use Rattle.std.proofs.lemmas.List.{get_or_default}
use Rattle.descriptor_table.proofs.Finding.{held_by, held_by_none}
use Rattle.descriptor_table.proofs.Order.{firsts_rise}
use Rattle.descriptor_table.proofs.cursors.run_from.Goals as goal

pub returns-then-index-runs-clause-page : goal.returns-then-index-runs-clause-page
returns-then-index-runs-clause-page c = held_by_none c.args.runs.now c.args.index c.args.page (omega arith) (λ j d l. c.requires.by j d (omega arith) l) (λ j d l h. absurd (omega arith))

pub returns-then-run-page-clause-page : goal.returns-then-run-page-clause-page
returns-then-run-page-clause-page c =
    let run = c.index-runs-index.result in
    held_by c.args.runs.now c.args.index run c.args.page c.requires.runs (omega arith) c.index-runs-index.is (omega arith) (omega (arith, c.requires.above c.args.index run (omega arith) (omega arith), ap (λ s. s.range.first + s.range.pages) c.index-runs-index.is))

pub returns-else-run-page-clause-page : goal.returns-else-run-page-clause-page
returns-else-run-page-clause-page c =
    let run = c.index-runs-index.result in
    held_by_none c.args.runs.now c.args.index c.args.page (omega arith) (λ j d l. c.requires.by j d (omega arith) l)
    (λ j d l h. omega (arith, firsts_rise c.args.runs.now c.requires.runs c.args.index j d l h, ap (λ s. s.range.first) c.index-runs-index.is, ap (λ s. s.range.first) (get_or_default c.args.runs.now c.args.index d run (omega arith))))
