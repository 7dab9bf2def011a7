use Rattle.page_ranges.proofs.MaximalRuns.{runs_of-pages_of}
use Rattle.descriptor_table.specs.Leaves.{runs_in}
use Rattle.descriptor_table.proofs.table.RunTable.run.Goals as goal

pub returns : goal.returns
returns g c =
    let e = runs_of-pages_of (runs_in c.self.inside.row.leaves) c.self.invariant.maximal in
    let r = rw c.leaves.ensures.value at c.run_at_index.ensures in
    rw (← c.self.view_is, e) r
