use Rattle.raw_pool.proofs.PageRuns.{FreeUpTo}
use Rattle.raw_pool.proofs.pages.cells.are_free.Given as goal

abbrev pub invariant-loop-i : goal.invariant-loop-i
invariant-loop-i l = FreeUpTo l.marks l.at l.i
