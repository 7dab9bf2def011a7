use Rattle.std.proofs.Common.{◌+◌, ◌≤◌, arith}
use Rattle.page_ranges.specs.declared.ranges.Owner.TheVariants.{Pages}
use Rattle.page_ranges.specs.MemoryTypes.{page_count}
use Rattle.page_ranges.specs.Runs.{pages_of}
use Rattle.plain_search.proofs.PlainMaps.{run_end}
use Rattle.plain_search.proofs.PlainPrices.{by_more, parts_placed, next_up}
use Rattle.plain_search.proofs.plain.placed_runs.Goals as goal

pub loop-run-preserved : goal.loop-run-preserved
loop-run-preserved g c =
    let i = c.loop-run.run-index in
    let r = c.run-item.result in
    let end = r.range.first + r.range.pages in
    let low = c.clamp-low.result in
    let high = c.clamp-high.result in
    let within : end ≤ page_count = run_end c.args.runs.now i r c.requires.runs.ends (omega arith) c.run-item.is in
    record {
      pages = parts_placed c.args.range c.args.mtype c.attributes_as.result Pages c.args.runs.now i r low high end (omega arith) c.run-item.is c.attributes_as.ensures (omega arith) (omega arith) (omega arith) (omega arith)
          (λ h. omega arith) (λ h. omega arith) (λ h. omega arith) (λ h. omega arith)
          (pages_of c.loop-run.out.items) (pages_of c.push_part.new.out.items) (pages_of c.push_part-in-loop-run.new.out.items) (pages_of c.push_part-in-loop-run-2.new.out.items)
          c.loop-run.invariant.pages c.in_ok-push_part.ensures.pages c.in_ok-push_part-2.ensures.pages c.in_ok-push_part-3.ensures.pages;
      order = by_more end page_count c.push_part-in-loop-run-2.new.out.items within c.in_ok-push_part-3.ensures.order;
      up_to = λ s h e. next_up c.args.runs.now i (i + 1) r s c.push_part-in-loop-run-2.new.out.items end c.requires.runs.order (omega arith) h c.run-item.is e (omega arith) c.in_ok-push_part-3.ensures.order;
    }
