use Rattle.pool_services.proofs.FilledBlocks.{filled}
use Rattle.pool_services.proofs.laws.filled_bytes_law.Goals as goal

pub returns : goal.returns
returns c = filled
