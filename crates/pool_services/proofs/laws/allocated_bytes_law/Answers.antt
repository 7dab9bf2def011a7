use Rattle.pool_services.proofs.BlockBytes.{took}
use Rattle.pool_services.proofs.laws.allocated_bytes_law.Goals as goal

pub returns : goal.returns
returns c = took
