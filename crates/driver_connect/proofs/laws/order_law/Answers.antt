use Rattle.driver_connect.proofs.DriverLists.{in_rule_order}
use Rattle.driver_connect.proofs.laws.order_law.Goals as goal

pub returns : goal.returns
returns c = in_rule_order
