use Rattle.placement_certificate.proofs.Places.{best_candidate}
use Rattle.placement_certificate.proofs.laws.candidates_law.Goals as goal

pub returns : goal.returns
returns c = best_candidate
