use Rattle.placement_certificate.proofs.Places.{edges}
use Rattle.placement_certificate.proofs.laws.edges_law.Goals as goal

pub returns : goal.returns
returns c = edges
