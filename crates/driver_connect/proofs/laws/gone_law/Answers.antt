use Rattle.driver_connect.proofs.Left.{handles_gone}
use Rattle.driver_connect.proofs.laws.gone_law.Goals as goal

pub returns : goal.returns
returns c = handles_gone
