use Rattle.driver_connect.proofs.StopsInOrder.{in_stop_order}
use Rattle.driver_connect.proofs.laws.stop_order_law.Goals as goal

pub returns : goal.returns
returns c = in_stop_order
