use Rattle.std.proofs.Common.{◌≡◌, ◌+◌, ◌*◌, ◌≤◌, ◌++◌, length, take, drop}
use Rattle.page_ranges.specs.Memory.{retyped}
use Rattle.page_ranges.specs.Runs.{pages_of, AreMaximalRuns}
use Rattle.descriptor_table.specs.Leaves.{runs_in}
use Rattle.descriptor_table.specs.LeafRows.{excess_of}
use Rattle.descriptor_table.specs.Reserves.{cut_count}
use Rattle.descriptor_table.proofs.leaf_row.LeafRow.change.Given as goal

-- the leaves before an index are done, and those from it on are as they were
abbrev pub invariant-loop-hint : goal.invariant-loop-hint
invariant-loop-hint g l = record {
  bound : l.at ≤ length l.self.leaves;
  done : AreMaximalRuns (runs_in (take l.at l.self.leaves));
  left : AreMaximalRuns (runs_in (drop l.at l.self.leaves));
  pages : pages_of (runs_in (take l.at l.self.leaves)) ++ retyped l.retyping.range l.retyping.mtype l.retyping.owner (pages_of (runs_in (drop l.at l.self.leaves)))
      ≡ retyped l.retyping.range l.retyping.mtype l.retyping.owner (pages_of (runs_in l.initial.self.leaves));
  room : excess_of l.self.leaves + cut_count l.retyping.range (runs_in (drop l.at l.self.leaves)) + 15 * l.initial.self.spare ≤ excess_of l.initial.self.leaves + 2 + 15 * l.self.spare;
}

abbrev pub decreases-loop-hint : goal.decreases-loop-hint
decreases-loop-hint g l = length (runs_in (drop l.at l.self.leaves))
