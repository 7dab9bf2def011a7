use Rattle.std.proofs.Common.{◌≤◌}
use Rattle.std.specs.List.{AllWithin}
use Rattle.descriptor_table.proofs.searches.count_beginning_by_from.Given as goal

-- the runs so far begin at the page or below it
abbrev pub invariant-loop-index : goal.invariant-loop-index
invariant-loop-index l = AllWithin (λ r. r.range.first ≤ l.page) l.runs 0 l.index
