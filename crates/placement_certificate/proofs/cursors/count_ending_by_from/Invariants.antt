use Rattle.std.proofs.Common.{◌+◌, ◌≤◌}
use Rattle.std.specs.List.{AllWithin}
use Rattle.placement_certificate.proofs.cursors.count_ending_by_from.Given as goal

-- the entries so far end at the page or below it
abbrev pub invariant-loop-index : goal.invariant-loop-index
invariant-loop-index l = AllWithin (λ e. e.first + e.pages ≤ l.page) l.map 0 l.index
