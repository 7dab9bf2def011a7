use Rattle.std.proofs.Common.{◌≡◌, ◌≤◌, length}
use Rattle.page_ranges.specs.MemoryMap.{memory_of}
use Rattle.placement_certificate.specs.Certificates.{IsTrueBound}
use Rattle.placement_certificate.proofs.CheckedBounds.{IsLeft}
use Rattle.placement_certificate.proofs.checking.are_true_bounds.Given as goal

-- the bounds of the entries so far are true
abbrev pub invariant-loop-entry : goal.invariant-loop-entry
invariant-loop-entry l = record {
  left : IsLeft (IsTrueBound (memory_of l.map) l.request) l.map l.bounds l.entry-index l.count;
  within : l.count ≤ length l.bounds;
  stays : l.search ≡ memory_of l.map;
}
