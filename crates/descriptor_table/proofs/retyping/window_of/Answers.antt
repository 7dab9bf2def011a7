use Rattle.std.proofs.Common.{◌+◌, ◌<◌, arith}
use Rattle.descriptor_table.proofs.Order.{all_taken, all_dropped}
use Rattle.descriptor_table.proofs.Finding.{window_order}
use Rattle.descriptor_table.proofs.retyping.window_of.Goals as goal

pub returns : goal.returns
returns c =
    let low = c.count_ending_below-low in
    let high = c.count_beginning_by_from-high in
    record {
      order = window_order c.args.runs.now c.args.range low.result high.result (omega arith) low.ensures.below high.ensures.above;
      bound = omega arith;
      below = all_taken (λ r. r.range.first + r.range.pages < c.args.range.first) c.args.runs.now low.result (λ k d l h. low.ensures.below k d (omega arith) l);
      above = all_dropped (λ r. c.args.range.first + c.args.range.pages < r.range.first) c.args.runs.now high.result high.ensures.above;
    }

pub count_beginning_by_from-high-requires-clause-before : goal.count_beginning_by_from-high-requires-clause-before
count_beginning_by_from-high-requires-clause-before c = λ k d z l. omega (arith, c.count_ending_below-low.ensures.below k d z l)
