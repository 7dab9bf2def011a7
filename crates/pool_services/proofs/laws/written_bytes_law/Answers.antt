use Rattle.pool_services.proofs.PoolBytes.{wrote}
use Rattle.pool_services.proofs.laws.written_bytes_law.Goals as goal

pub returns : goal.returns
returns c = wrote
