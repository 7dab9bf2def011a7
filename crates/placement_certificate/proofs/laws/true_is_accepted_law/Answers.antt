use Rattle.placement_certificate.proofs.Accepted.{true_accepted}
use Rattle.placement_certificate.proofs.laws.true_is_accepted_law.Goals as goal

pub returns : goal.returns
returns c = true_accepted
