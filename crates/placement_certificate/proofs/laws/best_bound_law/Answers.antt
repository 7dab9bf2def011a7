use Rattle.placement_certificate.proofs.BestBounds.{best_bound, no_bound}
use Rattle.placement_certificate.proofs.laws.best_bound_law.Goals as goal

pub returns : goal.returns
returns c = λ m r bs proper good bounds. (best_bound m r bs proper good bounds, no_bound m r bs proper good bounds)
