use Rattle.certificate_blocks.proofs.BlockReadBack.{read_back}
use Rattle.certificate_blocks.proofs.laws.block_read_back_law.Goals as goal

pub returns : goal.returns
returns c = read_back
