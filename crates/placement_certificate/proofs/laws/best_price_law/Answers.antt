use Rattle.placement_certificate.proofs.Places.{best_price}
use Rattle.placement_certificate.proofs.laws.best_price_law.Goals as goal

pub returns : goal.returns
returns c = best_price
