use Rattle.std.proofs.Common.{◌≡◌, ◌++◌, length}
use Rattle.descriptor_table.specs.LeafRows.{excess_of}
use Rattle.descriptor_table.specs.Leaves.{runs_in, AreLeaves}
use Rattle.descriptor_table.proofs.leaf_row.LeafRow.from_runs.Given as goal

-- the runs so far are in the leaves, none beyond the first 16 of one
abbrev pub invariant-loop-rest : goal.invariant-loop-rest
invariant-loop-rest g l = record {
  runs : runs_in l.leaves.items ++ l.rest ≡ l.runs;
  leaves : AreLeaves l.leaves.items;
  excess : excess_of l.leaves.items ≡ 0;
}

abbrev pub decreases-loop-rest : goal.decreases-loop-rest
decreases-loop-rest g l = length l.rest
