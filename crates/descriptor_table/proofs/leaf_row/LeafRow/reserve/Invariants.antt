use Rattle.std.proofs.Common.{◌≡◌, ◌-◌, ◌≤◌}
use Rattle.descriptor_table.proofs.leaf_row.LeafRow.reserve.Given as goal

abbrev pub invariant-loop-self : goal.invariant-loop-self
invariant-loop-self g l = record {
  leaves : l.self.leaves ≡ l.initial.self.leaves;
  more : l.initial.self.spare ≤ l.self.spare;
}

abbrev pub decreases-loop-self : goal.decreases-loop-self
decreases-loop-self g l = l.count - l.self.spare
