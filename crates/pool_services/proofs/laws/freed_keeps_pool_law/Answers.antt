use Rattle.pool_services.proofs.KeptPools.{freed-keeps}
use Rattle.pool_services.proofs.laws.freed_keeps_pool_law.Goals as goal

pub returns : goal.returns
returns c = freed-keeps
