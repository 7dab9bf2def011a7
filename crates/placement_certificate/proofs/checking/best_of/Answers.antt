use Rattle.placement_certificate.proofs.CheckedBounds.{best_more}
use Rattle.placement_certificate.proofs.checking.best_of.Goals as goal

pub loop-bound-preserved : goal.loop-bound-preserved
loop-bound-preserved c = rw c.better_of-best.ensures (best_more c.args.bounds.now c.loop-bound.bound-index _ c.loop-bound.best c.loop-bound-test.true c.loop-bound.invariant)
