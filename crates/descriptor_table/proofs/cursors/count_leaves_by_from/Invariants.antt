use Rattle.std.proofs.Common.{◌≤◌}
use Rattle.std.specs.List.{AllWithin}
use Rattle.descriptor_table.specs.Leaves.{first_page}
use Rattle.descriptor_table.proofs.cursors.count_leaves_by_from.Given as goal

-- the leaves so far begin by the page
abbrev pub invariant-loop-index : goal.invariant-loop-index
invariant-loop-index g l = AllWithin (λ k. first_page k ≤ l.page) l.leaves 0 l.index
