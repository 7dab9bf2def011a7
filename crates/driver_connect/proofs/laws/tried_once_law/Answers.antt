use Rattle.driver_connect.proofs.TriedOnce.{tried_once}
use Rattle.driver_connect.proofs.laws.tried_once_law.Goals as goal

pub returns : goal.returns
returns c = tried_once
