use Rattle.driver_connect.proofs.StartPasses.{start_order}
use Rattle.driver_connect.proofs.laws.start_order_law.Goals as goal

pub returns : goal.returns
returns c = start_order
