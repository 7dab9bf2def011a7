use Rattle.placement_certificate.proofs.Edges.{inside}
use Rattle.placement_certificate.proofs.laws.inside_law.Goals as goal

pub returns : goal.returns
returns c = inside
