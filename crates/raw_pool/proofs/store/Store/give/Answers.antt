use Rattle.std.proofs.Common.{◌≡◌, List, None, refl, sym, ap, ◌∙◌}
use Rattle.raw_pool.specs.Blocks.{Block, block_at}
use Rattle.raw_pool.specs.FreeList.{blocks_in}
use Rattle.raw_pool.proofs.Regions.{without-none}
use Rattle.raw_pool.proofs.store.Store.give.Goals as goal

pub returns-else-is_block-clause-pool : goal.returns-else-is_block-clause-pool
returns-else-is_block-clause-pool g c =
    let bs : List Block = blocks_in c.args.self.now.region.bytes.set c.args.self.now.region.marks.set in
    let e : block_at c.args.cell bs ≡ None = c.is_block-is_block.ensures.block ∙ (rw c.if-is_block.false refl) in
    ap (λ (xs : List Block). record { cells = c.args.self.now.cells; blocks = xs; lies = None }) (sym (without-none c.args.cell bs e))
