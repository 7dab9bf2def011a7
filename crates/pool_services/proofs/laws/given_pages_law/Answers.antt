use Rattle.pool_services.proofs.KeptPools.{given-keeps}
use Rattle.pool_services.proofs.laws.given_pages_law.Goals as goal

pub returns : goal.returns
returns c = given-keeps
