use Rattle.std.proofs.Common.{◌≤◌}
use Rattle.descriptor_table.specs.Wanting.{HaveSameEntries}
use Rattle.descriptor_table.proofs.free_entries.marked_leaf.Given as goal

-- the leaves so far have no entry
abbrev pub invariant-loop-leaf : goal.invariant-loop-leaf
invariant-loop-leaf g l = record {
  low : l.from ≤ l.leaf;
  passed : HaveSameEntries l.leaves l.from l.leaf;
}
