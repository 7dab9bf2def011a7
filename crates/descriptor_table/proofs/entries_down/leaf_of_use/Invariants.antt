use Rattle.descriptor_table.specs.Leaves.{leaf_at}
use Rattle.descriptor_table.specs.Summaries.{BeginsFree}
use Rattle.descriptor_table.specs.Wanting.{AreOfNoUse}
use Rattle.descriptor_table.proofs.entries_down.leaf_of_use.Given as goal

-- the leaves from here on are of no use
abbrev pub invariant-loop-leaf : goal.invariant-loop-leaf
invariant-loop-leaf g l = record {
  begins : BeginsFree l.goes_on (leaf_at l.leaves l.leaf);
  passed : AreOfNoUse l.wanted l.leaves l.leaf l.high;
}
