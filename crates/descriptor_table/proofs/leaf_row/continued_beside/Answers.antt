use Rattle.std.proofs.Common.{◌+◌, [], ap, drop, take, subst, arith}
use Rattle.page_ranges.specs.Runs.{AreRuns}
use Rattle.descriptor_table.specs.Leaves.{entry_count, leaf_at, runs_in}
use Rattle.descriptor_table.proofs.LeafLists
use Rattle.descriptor_table.proofs.LeafChanged.{all_is, counts_of_three, front_is, rest_is}
use Rattle.descriptor_table.proofs.leaf_row.continued_beside.Goals as goal

pub returns-clause-entries : goal.returns-clause-entries
returns-clause-entries g c =
    let ls = c.args.leaves.now in
    let i = c.args.at in
    let h = c.requires.bound in
    let k = c.continued.result in
    let m = c.continued-2.result in
    let all = entry_count (runs_in ls) in
    omega (
      arith,
      counts_of_three (runs_in (take i ls)) (leaf_at ls i) (runs_in (drop (i + 1) ls)) all k m (subst AreRuns (all_is ls i h) c.requires.runs) (LeafLists.leaf_at ls i [] c.requires.leaves h).0 (ap entry_count (all_is ls i h))
          (omega (arith, c.continued.ensures.entries, ap entry_count (rest_is ls i h))) (omega (arith, c.continued-2.ensures.entries, ap entry_count (front_is ls i h))),
    )
