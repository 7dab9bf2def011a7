use Rattle.std.proofs.Common.{◌≡◌, ◌-◌, length, drop}
use Rattle.page_ranges.specs.Runs.{pages_of}
use Rattle.descriptor_table.specs.Leaves.{runs_in}
use Rattle.descriptor_table.specs.LeafWalks.{AreRunsOfLeaf}
use Rattle.descriptor_table.specs.Wanting.{entries_of}
use Rattle.descriptor_table.proofs.free_entries.LeafUp.next_entry.Given as goal

-- what is passed is no entry
abbrev pub invariant-loop-index : goal.invariant-loop-index
invariant-loop-index g l = record {
  runs : AreRunsOfLeaf l.self-inside.leaves.now l.self-inside.leaf l.self-inside.runs.now l.self-inside.marks l.self-inside.index;
  memory : l.fn.self.memory ≡ pages_of (runs_in l.self-inside.leaves.now);
  entries : l.fn.self.entries ≡ entries_of (drop l.self-inside.index l.self-inside.runs.now);
}

abbrev pub decreases-loop-index : goal.decreases-loop-index
decreases-loop-index g l = length l.self-inside.runs.now - l.self-inside.index
