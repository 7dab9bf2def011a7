use Rattle.driver_connect.proofs.Makers.{makers_stand_beside}
use Rattle.driver_connect.proofs.laws.makers_item_law.Goals as goal

pub returns : goal.returns
returns c = makers_stand_beside
