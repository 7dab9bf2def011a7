use Rattle.certificate_blocks.proofs.AcceptedBlocks.{accepted_block}
use Rattle.certificate_blocks.proofs.laws.accepted_block_law.Goals as goal

pub returns : goal.returns
returns c = accepted_block
