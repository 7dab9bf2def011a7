use Rattle.region_heap.proofs.FreeRuns.{Passed}
use Rattle.region_heap.proofs.cells.first_free.Given as goal

abbrev pub invariant-loop-at : goal.invariant-loop-at
invariant-loop-at l = Passed l.marks l.at l.free l.units
