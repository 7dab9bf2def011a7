use Rattle.std.proofs.Common.{◌≡◌, Some, sym, ap, ◌∙◌, arith}
use Rattle.std.specs.Option.{option_map}
use Rattle.raw_pool.specs.Blocks.{Block, block_at}
use Rattle.raw_pool.specs.FreeList.{block_in, blocks_in}
use Rattle.raw_pool.specs.Searches.{IsStore}
use Rattle.raw_pool.proofs.Gives.{Held, held}
use Rattle.raw_pool.proofs.Regions.{region_store}
use Rattle.raw_pool.proofs.Listed.{block_marked}
use Rattle.raw_pool.proofs.store.Store.size_of.Goals as goal

pub overflow_mul-cell : goal.overflow_mul-cell
overflow_mul-cell g c =
    let m = c.is_block.ensures.marked c.if-is_block.true in
    let s : IsStore c.args.self.now.region.bytes c.args.self.now.region.marks c.args.self.now.cells c.args.self.now.head = region_store c.args.self.now.region.bytes c.args.self.now.region.marks c.args.self.now.cells c.args.self.now.head c.args.cell c.requires.0 m.0 in
    let b : Held c.args.self.now.region.bytes.set c.args.self.now.cells c.args.cell = held c.args.self.now.region.bytes c.args.self.now.region.marks c.args.self.now.cells c.args.self.now.head c.args.cell s m.0 m.1 in
    omega (arith, b.within, s.few)

pub word-requires : goal.word-requires
word-requires g c =
    let m = c.is_block.ensures.marked c.if-is_block.true in
    let s : IsStore c.args.self.now.region.bytes c.args.self.now.region.marks c.args.self.now.cells c.args.self.now.head = region_store c.args.self.now.region.bytes c.args.self.now.region.marks c.args.self.now.cells c.args.self.now.head c.args.cell c.requires.0 m.0 in
    let b : Held c.args.self.now.region.bytes.set c.args.self.now.cells c.args.cell = held c.args.self.now.region.bytes c.args.self.now.region.marks c.args.self.now.cells c.args.self.now.head c.args.cell s m.0 m.1 in
    omega (arith, b.set)

pub returns-then-is_block : goal.returns-then-is_block
returns-then-is_block g c =
    let m = c.is_block.ensures.marked c.if-is_block.true in
    let s : IsStore c.args.self.now.region.bytes c.args.self.now.region.marks c.args.self.now.cells c.args.self.now.head = region_store c.args.self.now.region.bytes c.args.self.now.region.marks c.args.self.now.cells c.args.self.now.head c.args.cell c.requires.0 m.0 in
    let b : Held c.args.self.now.region.bytes.set c.args.self.now.cells c.args.cell = held c.args.self.now.region.bytes c.args.self.now.region.marks c.args.self.now.cells c.args.self.now.head c.args.cell s m.0 m.1 in
    let e : block_at c.args.cell (blocks_in c.args.self.now.region.bytes.set c.args.self.now.region.marks.set) ≡ Some (block_in c.args.self.now.region.bytes.set c.args.cell) = block_marked c.args.self.now.region.bytes.set c.args.self.now.region.marks.set c.args.cell m.0 m.1 in
    ap Some (c.word.ensures ∙ b.size) ∙ sym (ap (option_map (λ (x : Block). x.size)) e)
