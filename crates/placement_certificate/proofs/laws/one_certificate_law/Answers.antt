use Rattle.placement_certificate.proofs.OneCertificate.{one_certificate}
use Rattle.placement_certificate.proofs.laws.one_certificate_law.Goals as goal

pub returns : goal.returns
returns c = one_certificate
