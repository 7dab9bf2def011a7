use Rattle.driver_connect.proofs.InTurn.{in_turn}
use Rattle.driver_connect.proofs.laws.starts_law.Goals as goal

pub returns : goal.returns
returns c = in_turn
