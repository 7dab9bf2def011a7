use Rattle.std.proofs.Common.{◌+◌, ◌≤◌, length, length-drop, true, false, sym, ap, ◌∙◌, arith}
use Rattle.std.proofs.lemmas.List.{take_rest}
use Rattle.page_ranges.specs.MemoryTypes.{page_count}
use Rattle.page_ranges.proofs.RunLists.{run_at}
use Rattle.descriptor_table.proofs.Counts.{runs_behind, ends_behind, count_behind, count_few}
use Rattle.descriptor_table.proofs.entries.count_entries.Goals as goal
use Rattle.descriptor_table.proofs.entries.count_entries.Goals.{then-goes_on, else-goes_on}

pub goes_on-requires : goal.goes_on-requires
goes_on-requires c =
    let r = c.first-item.result in
    omega (arith, run_at (λ s. s.range.first + s.range.pages ≤ page_count) c.loop-rest.rest.now 0 r c.loop-rest.invariant.ends (omega arith), ap (λ s. s.range.first + s.range.pages) c.first-item.is)

pub loop-rest-preserved : goal.loop-rest-preserved
loop-rest-preserved c =
    let i = c.loop-rest.invariant in
    let rest = c.loop-rest.rest.now in
    let fewer = ap length (take_rest rest 1) ∙ length-drop 1 rest in
    elim c.if-goes_on.branch [
      | then-goes_on w ↦ record {
        runs = runs_behind rest i.runs;
        ends = ends_behind page_count rest i.ends;
        count = omega (arith, w.entries-is, i.count, fewer, count_behind rest c.first-item.result c.second-item.result true i.runs (omega arith) c.first-item.is c.second-item.is (sym w.if-goes_on.true ∙ c.goes_on.ensures));
        some = omega (arith, w.entries-is, fewer, i.some);
        bound = omega (arith, w.entries-is, i.bound);
      }
      | else-goes_on w ↦ record {
        runs = runs_behind rest i.runs;
        ends = ends_behind page_count rest i.ends;
        count = omega (arith, w.entries-is, i.count, fewer, count_behind rest c.first-item.result c.second-item.result false i.runs (omega arith) c.first-item.is c.second-item.is (sym w.if-goes_on.false ∙ c.goes_on.ensures));
        some = omega (arith, w.entries-is, fewer, i.some);
        bound = omega (arith, w.entries-is, i.bound);
      }
    ]

pub returns-clause-count : goal.returns-clause-count
returns-clause-count c = omega (arith, c.loop-rest.invariant.count, count_few c.loop-rest.rest.now c.loop-rest.invariant.runs (omega arith))
