use Rattle.pool_services.proofs.PoolBytes.{read}
use Rattle.pool_services.proofs.laws.read_bytes_law.Goals as goal

pub returns : goal.returns
returns c = read
