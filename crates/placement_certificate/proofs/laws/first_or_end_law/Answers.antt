use Rattle.placement_certificate.proofs.Places.{best_first_or_end}
use Rattle.placement_certificate.proofs.laws.first_or_end_law.Goals as goal

pub returns : goal.returns
returns c = best_first_or_end
