use Rattle.driver_connect.proofs.Idle.{idle_connect}
use Rattle.driver_connect.proofs.laws.nothing_carried_out_law.Goals as goal

pub returns : goal.returns
returns c = idle_connect
