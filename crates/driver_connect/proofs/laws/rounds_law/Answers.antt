use Rattle.driver_connect.specs.Stopping.{stop_set}
use Rattle.driver_connect.proofs.Rounds.{rounds_end}
use Rattle.driver_connect.proofs.StopSets.{is_settled}
use Rattle.driver_connect.proofs.laws.rounds_law.Goals as goal

pub returns : goal.returns
returns c k t opens pairs = rounds_end k t opens (stop_set t opens pairs) (is_settled t opens pairs)
