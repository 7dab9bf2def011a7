use Rattle.boot_core.proofs.CertifiedChoices.{certified_choices}
use Rattle.boot_core.proofs.laws.certificate_law.Goals as goal

pub returns : goal.returns
returns g c = λ ds placements certifies machine calls replies new run valid. certified_choices ds placements certifies machine calls replies new run valid
