use Rattle.pool_services.proofs.BlockBytes.{freed}
use Rattle.pool_services.proofs.laws.freed_bytes_law.Goals as goal

pub returns : goal.returns
returns c = freed
