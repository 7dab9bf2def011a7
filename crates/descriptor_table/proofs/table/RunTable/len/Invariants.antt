use Rattle.std.proofs.Common.{◌≡◌, length, take}
use Rattle.descriptor_table.specs.Leaves.{runs_in}
use Rattle.descriptor_table.proofs.table.RunTable.len.Given as goal

-- the runs of the leaves so far
abbrev pub invariant-loop-leaf : goal.invariant-loop-leaf
invariant-loop-leaf g l = l.count ≡ length (runs_in (take l.leaf-index l.leaf-items))
