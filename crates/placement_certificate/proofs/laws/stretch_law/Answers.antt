use Rattle.placement_certificate.proofs.Places.{stretch}
use Rattle.placement_certificate.proofs.laws.stretch_law.Goals as goal

pub returns : goal.returns
returns c = stretch
