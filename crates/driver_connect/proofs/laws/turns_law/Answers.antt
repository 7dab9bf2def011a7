use Rattle.driver_connect.proofs.TurnsTaken.{turns_taken}
use Rattle.driver_connect.proofs.laws.turns_law.Goals as goal

pub returns : goal.returns
returns c = turns_taken
