use Rattle.std.proofs.Common.{◌≡◌, drop}
use Rattle.std.specs.Prelude.{slice_get}
use Rattle.descriptor_table.specs.Leaves.{runs_in}
use Rattle.descriptor_table.proofs.leaf_searches.run_at_index.Given as goal

-- the run is one of the leaves that are left
abbrev pub invariant-loop-leaf : goal.invariant-loop-leaf
invariant-loop-leaf g l = slice_get (runs_in l.leaves) l.index ≡ slice_get (runs_in (drop l.leaf-index l.leaves)) l.left
