use Rattle.std.proofs.Common.{◌+◌, ◌-◌, ◌++◌, ap, ◌∙◌, sym, arith}
use Rattle.std.proofs.lemmas.Result.{on_ok_weaker}
use Rattle.page_ranges.specs.Memory.{row}
use Rattle.page_ranges.specs.Runs.{page_in, pages_of}
use Rattle.page_ranges.proofs.RunLists.{retyped_run}
use Rattle.descriptor_table.proofs.CutRuns.{three_parts, put_behind}
use Rattle.descriptor_table.proofs.cuts.push_cut.Goals as goal

pub returns-clause-pages : goal.returns-clause-pages
returns-clause-pages g c =
    let r = c.args.run.now in
    let old = pages_of c.args.parts.now.items in
    let end = r.range.first + r.range.pages in
    let low = c.max-low.result in
    let high = c.min-high.result in
    let below = row (low - r.range.first) (page_in r.range.first r) in
    let inside = row (high - low) (page_in low (retyped_run c.args.mtype c.args.owner r)) in
    let made = row (high - low) (record { number = low; mtype = c.args.mtype; attributes = c.attributes_as.result; owner = c.args.owner }) in
    let above = row (end - high) (page_in high r) in
    let same = ap (λ n. row (high - low) (record { number = low; mtype = c.args.mtype; attributes = n; owner = c.args.owner })) c.attributes_as.ensures in
    let parts = three_parts c.args.range c.args.mtype c.args.owner r low high (omega arith) (omega arith) (omega arith) (λ h. omega arith) (λ h. (omega arith, omega arith)) (λ h. omega arith) in
    on_ok_weaker c.push_part-3.result
    (λ put.
    put_behind old (pages_of c.push_part.new.runs.items) (pages_of c.push_part-2.new.runs.items) (pages_of c.push_part-3.new.runs.items) below inside made above
    c.in_ok-push_part.ensures.pages c.in_ok-push_part-2.ensures.pages same put
    ∙ ap (λ ms. old ++ ms) (sym parts))
    c.push_part-3.ensures.pages
