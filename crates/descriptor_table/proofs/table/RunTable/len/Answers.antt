use Rattle.std.proofs.Common.{◌+◌, length, length-append, take, drop, ap, ◌∙◌, arith}
use Rattle.std.proofs.lemmas.List.{take_all}
use Rattle.page_ranges.proofs.MaximalRuns.{runs_of-pages_of}
use Rattle.descriptor_table.specs.Leaves.{runs_in}
use Rattle.descriptor_table.proofs.CutCounts.{leaf_behind_first, runs_of_both}
use Rattle.descriptor_table.proofs.TableFacts.{few_runs}
use Rattle.descriptor_table.proofs.table.RunTable.len.Goals as goal

pub overflow_add-count : goal.overflow_add-count
overflow_add-count g c =
    let ls = c.leaves-leaf-items.result.now in
    let i = c.loop-leaf.leaf-index in
    let leaf = c.leaf-item.result in
    let next = ap length (leaf_behind_first ls leaf i (omega arith) c.leaf-item.is) in
    omega (
      arith,
      c.loop-leaf.invariant,
      ap length c.runs.ensures,
      next,
      length-append (runs_in (take i ls)) leaf,
      ap length (runs_of_both ls (i + 1)),
      length-append (runs_in (take (i + 1) ls)) (runs_in (drop (i + 1) ls)),
      few_runs (runs_in ls) c.leaves-leaf-items.ensures.runs c.leaves-leaf-items.ensures.ends,
    )

pub returns-clause-len : goal.returns-clause-len
returns-clause-len g c =
    let all = take_all c.loop-leaf.leaf-index c.leaves-leaf-items.result.now (omega arith) ∙ c.leaves-leaf-items.ensures.value in
    rw (← c.self.view_is, runs_of-pages_of (runs_in c.self.inside.row.leaves) c.self.invariant.maximal) (c.loop-leaf.invariant ∙ ap (λ ls. length (runs_in ls)) all)
