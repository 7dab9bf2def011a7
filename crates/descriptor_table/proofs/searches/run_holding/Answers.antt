use Rattle.std.proofs.Common.{◌-◌, ap, arith}
use Rattle.descriptor_table.proofs.Finding.{held_by, held_by_none, ends_by}
use Rattle.descriptor_table.proofs.searches.run_holding.Goals as goal

pub returns-then-count-eq0-clause-page : goal.returns-then-count-eq0-clause-page
returns-then-count-eq0-clause-page c =
    let none = c.count_beginning_by-count in
    held_by_none c.args.runs.now 0 c.args.page (omega arith) (λ j d l. absurd (omega arith)) (λ j d l h. none.ensures.above j d (omega arith) h)

pub returns-then-page-run-clause-page : goal.returns-then-page-run-clause-page
returns-then-page-run-clause-page c =
    let low = c.count_beginning_by-count.ensures.by (c.count_beginning_by-count.result - 1) c.index-runs-count.result (omega arith) (omega arith) in
    held_by c.args.runs.now (c.count_beginning_by-count.result - 1) c.index-runs-count.result c.args.page c.requires (omega arith) c.index-runs-count.is (omega (arith, low, ap (λ s. s.range.first) c.index-runs-count.is)) (omega (arith, low, ap (λ s. s.range.first) c.index-runs-count.is))

pub returns-else-page-run-clause-page : goal.returns-else-page-run-clause-page
returns-else-page-run-clause-page c =
    let low = c.count_beginning_by-count.ensures.by (c.count_beginning_by-count.result - 1) c.index-runs-count.result (omega arith) (omega arith) in
    held_by_none c.args.runs.now c.count_beginning_by-count.result c.args.page (omega arith)
    (λ j d l. ends_by c.args.runs.now (c.count_beginning_by-count.result - 1) c.index-runs-count.result c.args.page c.requires (omega arith) c.index-runs-count.is (omega (arith, low, ap (λ s. s.range.first) c.index-runs-count.is)) j d (omega arith))
    c.count_beginning_by-count.ensures.above
