use Rattle.std.proofs.Common.{take}
use Rattle.placement_certificate.specs.Search.{IsBestOf}
use Rattle.placement_certificate.proofs.checking.best_of.Given as goal

-- the best of the bounds so far
abbrev pub invariant-loop-bound : goal.invariant-loop-bound
invariant-loop-bound l = IsBestOf l.best (take l.bound-index l.bounds)
