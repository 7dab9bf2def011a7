use Rattle.std.proofs.Common.{◌+◌, ap, arith}
use Rattle.std.proofs.lemmas.List.{get_or_default}
use Rattle.page_ranges.proofs.RunLists.{ends_before, some_pages_at}
use Rattle.descriptor_table.proofs.Order.{firsts_rise}
use Rattle.descriptor_table.proofs.searches.likely_run_count.Goals as goal

-- the runs before one that begins at the page end there, or below
pub returns-then-page-run-clause-below : goal.returns-then-page-run-clause-below
returns-then-page-run-clause-below c =
    let runs = c.args.runs.now in
    let run = c.index-runs-likely.result in
    λ k d low high.
    omega (arith, ends_before runs k c.args.likely d run c.requires high (omega arith), some_pages_at runs k d c.requires (omega arith), ap (λ s. s.range.first) c.index-runs-likely.is)

pub returns-then-page-run-clause-above : goal.returns-then-page-run-clause-above
returns-then-page-run-clause-above c =
    let runs = c.args.runs.now in
    let run = c.index-runs-likely.result in
    λ k d low high.
    omega (arith, firsts_rise runs c.requires c.args.likely k d low high, ap (λ s. s.range.first) c.index-runs-likely.is, ap (λ s. s.range.first) (get_or_default runs c.args.likely d run (omega arith)))

-- those up to one that begins below the page and ends there or above, and those after it
pub returns-then-page-run-2-clause-below : goal.returns-then-page-run-2-clause-below
returns-then-page-run-2-clause-below c =
    let runs = c.args.runs.now in
    let run = c.index-runs-likely.result in
    λ k d low high.
    omega (arith, firsts_rise runs c.requires k c.args.likely d (omega arith) (omega arith), ap (λ s. s.range.first) c.index-runs-likely.is, ap (λ s. s.range.first) (get_or_default runs c.args.likely d run (omega arith)))

pub returns-then-page-run-2-clause-above : goal.returns-then-page-run-2-clause-above
returns-then-page-run-2-clause-above c =
    let runs = c.args.runs.now in
    let run = c.index-runs-likely.result in
    λ k d low high.
    omega (arith, ends_before runs c.args.likely k run d c.requires (omega arith) high, ap (λ s. s.range.first + s.range.pages) c.index-runs-likely.is)
