use Rattle.page_ranges.proofs.Blocks.{map_blocks, entry_is_block, block_is_entry}
use Rattle.page_ranges.proofs.laws.maximal_blocks_law.Goals as goal

pub returns : goal.returns
returns c = λ m a. (λ b. (entry_is_block m a b, block_is_entry m a b), (map_blocks m a).1)
