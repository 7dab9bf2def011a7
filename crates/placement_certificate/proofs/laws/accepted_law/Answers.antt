use Rattle.placement_certificate.proofs.Accepted.{true_in}
use Rattle.placement_certificate.proofs.laws.accepted_law.Goals as goal

pub returns : goal.returns
returns c = true_in
