use Rattle.std.proofs.Common.{ap, arith}
use Rattle.std.proofs.lemmas.List.{get_or_default}
use Rattle.descriptor_table.proofs.Order.{firsts_rise}
use Rattle.descriptor_table.proofs.searches.count_beginning_by_from.Goals as goal

pub returns-then-page-runs-clause-above : goal.returns-then-page-runs-clause-above
returns-then-page-runs-clause-above c =
    let run = c.index-runs-index.result in
    λ k d low high.
    omega (arith, firsts_rise c.args.runs.now c.requires.runs c.loop-index.index k d low high, ap (λ s. s.range.first) c.index-runs-index.is, ap (λ s. s.range.first) (get_or_default c.args.runs.now c.loop-index.index d run (omega arith)))
