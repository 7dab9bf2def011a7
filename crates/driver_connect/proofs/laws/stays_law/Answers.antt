use Rattle.driver_connect.proofs.Left.{others_stay}
use Rattle.driver_connect.proofs.laws.stays_law.Goals as goal

pub returns : goal.returns
returns c = others_stay
