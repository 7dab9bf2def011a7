use Rattle.driver_connect.proofs.StopSets.{is_closed, is_least}
use Rattle.driver_connect.proofs.laws.stop_set_law.Goals as goal

pub returns : goal.returns
returns c t opens pairs = (is_closed t opens pairs, is_least t opens pairs)
