use Rattle.std.proofs.Common.{◌+◌, ◌-◌, ap, arith}
use Rattle.std.proofs.lemmas.List.{get_or_default}
use Rattle.page_ranges.proofs.RunLists.{ends_before}
use Rattle.descriptor_table.proofs.Order.{ends_rise}
use Rattle.descriptor_table.proofs.searches.count_ending_below.Goals as goal

-- the last run that begins below the page ends below it, and those before it end no higher
pub returns-then-last-page-clause-below : goal.returns-then-last-page-clause-below
returns-then-last-page-clause-below c =
    let runs = c.args.runs.now in
    let index = c.count_beginning_below-count.result - 1 in
    let last = c.index-runs-count.result in
    λ k d low high.
    omega (arith, ends_rise runs c.requires k index d (omega arith) (omega arith), ap (λ s. s.range.first + s.range.pages) c.index-runs-count.is, ap (λ s. s.range.first + s.range.pages) (get_or_default runs index d last (omega arith)))

-- those before it end where it begins, or below
pub returns-else-last-page-clause-below : goal.returns-else-last-page-clause-below
returns-else-last-page-clause-below c =
    let runs = c.args.runs.now in
    let index = c.count_beginning_below-count.result - 1 in
    λ k d low high.
    omega (arith, ends_before runs k index d d c.requires high (omega arith), c.count_beginning_below-count.ensures.below index d (omega arith) (omega arith))

-- it ends at the page or above, and those after it end no lower
pub returns-else-last-page-clause-above : goal.returns-else-last-page-clause-above
returns-else-last-page-clause-above c =
    let runs = c.args.runs.now in
    let index = c.count_beginning_below-count.result - 1 in
    let last = c.index-runs-count.result in
    λ k d low high.
    omega (arith, ends_rise runs c.requires index k d low high, ap (λ s. s.range.first + s.range.pages) c.index-runs-count.is, ap (λ s. s.range.first + s.range.pages) (get_or_default runs index d last (omega arith)))
