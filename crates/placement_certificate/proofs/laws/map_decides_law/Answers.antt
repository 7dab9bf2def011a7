use Rattle.placement_certificate.proofs.MapDecides.{true_too}
use Rattle.placement_certificate.proofs.laws.map_decides_law.Goals as goal

pub returns : goal.returns
returns c = λ m n r d proper proper_too good same. true_too m n r proper proper_too good same d
