use Rattle.std.proofs.Common.{◌+◌}
use Rattle.std.specs.Prelude.{slice_get}
use Rattle.descriptor_table.specs.Leaves.{run_before}
use Rattle.descriptor_table.proofs.FreeBounds.{all_joined, joined_left}
use Rattle.descriptor_table.proofs.leaves.Leaf.summary.Goals as goal

pub returns-then-self-clause-runs : goal.returns-then-self-clause-runs
returns-then-self-clause-runs g c =
    let rs = c.self.inside.runs.value.items in
    rw (← c.self.view_is) (rw c.joined.ensures (λ i r at free. joined_left c.self.inside.summary c.all.result (run_before rs i) r (slice_get rs (i + 1)) (c.self.invariant.3 i r at free)))

pub returns-then-self-clause-joins : goal.returns-then-self-clause-joins
returns-then-self-clause-joins g c = λ goes i last free. rw c.joined.ensures (all_joined c.self.inside.summary c.all.result c.all.ensures)
