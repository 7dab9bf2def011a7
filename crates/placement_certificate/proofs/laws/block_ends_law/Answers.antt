use Rattle.placement_certificate.proofs.Places.{best_place}
use Rattle.placement_certificate.proofs.laws.block_ends_law.Goals as goal

pub returns : goal.returns
returns c = best_place
