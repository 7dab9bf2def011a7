use Rattle.std.proofs.Common.{◌≤◌, None, ◌+◌, ◌*◌, inr, List, length, sym, ap, ◌∙◌, subst, arith}
use Rattle.raw_pool.specs.Bytes.{Bytes, put, word}
use Rattle.raw_pool.specs.Blocks.{Block, Pool, longest_run}
use Rattle.raw_pool.specs.FreeList.{blocks_in}
use Rattle.raw_pool.specs.Searches.{IsStore, pool_of}
use Rattle.raw_pool.proofs.Gives.{Held, held}
use Rattle.raw_pool.proofs.Regions.{Found, found, region_store}
use Rattle.raw_pool.proofs.Longest.{longest_written}
use Rattle.raw_pool.proofs.Writes.{WrittenIn, written_in}
use Rattle.raw_pool.proofs.store.Store.write.Goals as goal

pub overflow_mul-cell : goal.overflow_mul-cell
overflow_mul-cell g c =
    let f : Found c.args.self.now.region.bytes.set c.args.self.now.region.marks.set c.args.cell c.in-Some.size = found c.args.self.now.region.bytes.set c.args.self.now.region.marks.set c.args.cell c.in-Some.size (sym c.in-Some.is ∙ c.size_of.ensures) in
    let s : IsStore c.args.self.now.region.bytes c.args.self.now.region.marks c.args.self.now.cells c.args.self.now.head = region_store c.args.self.now.region.bytes c.args.self.now.region.marks c.args.self.now.cells c.args.self.now.head c.args.cell c.requires.0 f.marked_in in
    let b : Held c.args.self.now.region.bytes.set c.args.self.now.cells c.args.cell = held c.args.self.now.region.bytes c.args.self.now.region.marks c.args.self.now.cells c.args.self.now.head c.args.cell s f.marked_in f.mark in
    omega (arith, b.within, s.few)

pub overflow_add-cell : goal.overflow_add-cell
overflow_add-cell g c =
    let f : Found c.args.self.now.region.bytes.set c.args.self.now.region.marks.set c.args.cell c.in-Some.size = found c.args.self.now.region.bytes.set c.args.self.now.region.marks.set c.args.cell c.in-Some.size (sym c.in-Some.is ∙ c.size_of.ensures) in
    let s : IsStore c.args.self.now.region.bytes c.args.self.now.region.marks c.args.self.now.cells c.args.self.now.head = region_store c.args.self.now.region.bytes c.args.self.now.region.marks c.args.self.now.cells c.args.self.now.head c.args.cell c.requires.0 f.marked_in in
    let b : Held c.args.self.now.region.bytes.set c.args.self.now.cells c.args.cell = held c.args.self.now.region.bytes c.args.self.now.region.marks c.args.self.now.cells c.args.self.now.head c.args.cell s f.marked_in f.mark in
    omega (arith, b.within, s.few)

pub overflow_add-cell-2 : goal.overflow_add-cell-2
overflow_add-cell-2 g c =
    let f : Found c.args.self.now.region.bytes.set c.args.self.now.region.marks.set c.args.cell c.in-Some.size = found c.args.self.now.region.bytes.set c.args.self.now.region.marks.set c.args.cell c.in-Some.size (sym c.in-Some.is ∙ c.size_of.ensures) in
    let s : IsStore c.args.self.now.region.bytes c.args.self.now.region.marks c.args.self.now.cells c.args.self.now.head = region_store c.args.self.now.region.bytes c.args.self.now.region.marks c.args.self.now.cells c.args.self.now.head c.args.cell c.requires.0 f.marked_in in
    let b : Held c.args.self.now.region.bytes.set c.args.self.now.cells c.args.cell = held c.args.self.now.region.bytes c.args.self.now.region.marks c.args.self.now.cells c.args.self.now.head c.args.cell s f.marked_in f.mark in
    omega (arith, b.within, s.few, f.size_is, b.size)

pub write-requires : goal.write-requires
write-requires g c =
    let f : Found c.args.self.now.region.bytes.set c.args.self.now.region.marks.set c.args.cell c.in-Some.size = found c.args.self.now.region.bytes.set c.args.self.now.region.marks.set c.args.cell c.in-Some.size (sym c.in-Some.is ∙ c.size_of.ensures) in
    let s : IsStore c.args.self.now.region.bytes c.args.self.now.region.marks c.args.self.now.cells c.args.self.now.head = region_store c.args.self.now.region.bytes c.args.self.now.region.marks c.args.self.now.cells c.args.self.now.head c.args.cell c.requires.0 f.marked_in in
    let b : Held c.args.self.now.region.bytes.set c.args.self.now.cells c.args.cell = held c.args.self.now.region.bytes c.args.self.now.region.marks c.args.self.now.cells c.args.self.now.head c.args.cell s f.marked_in f.mark in
    (omega (arith, b.set, f.size_is, b.size), omega (arith, b.within, f.size_is, b.size, s.room))

pub returns-clause-pool : goal.returns-clause-pool
returns-clause-pool g c =
    let f : Found c.args.self.now.region.bytes.set c.args.self.now.region.marks.set c.args.cell c.in-Some.size = found c.args.self.now.region.bytes.set c.args.self.now.region.marks.set c.args.cell c.in-Some.size (sym c.in-Some.is ∙ c.size_of.ensures) in
    let s : IsStore c.args.self.now.region.bytes c.args.self.now.region.marks c.args.self.now.cells c.args.self.now.head = region_store c.args.self.now.region.bytes c.args.self.now.region.marks c.args.self.now.cells c.args.self.now.head c.args.cell c.requires.0 f.marked_in in
    let b : Held c.args.self.now.region.bytes.set c.args.self.now.cells c.args.cell = held c.args.self.now.region.bytes c.args.self.now.region.marks c.args.self.now.cells c.args.self.now.head c.args.cell s f.marked_in f.mark in
    let fits : c.args.at + length c.args.bytes.now ≤ word c.args.self.now.region.bytes.set (32 * c.args.cell) = omega (arith, f.size_is) in
    let w : WrittenIn c.args.self.now.region.bytes.set (put c.args.self.now.region.bytes.set (32 * c.args.cell + 8 + c.args.at) c.args.bytes.now) c.args.self.now.region.marks.set c.args.self.now.cells c.args.self.now.head c.args.cell c.args.at c.args.bytes.now =
    written_in c.args.self.now.region.bytes c.args.self.now.region.marks c.args.self.now.cells c.args.self.now.head c.args.cell c.args.at c.args.bytes.now s f.marked_in f.mark fits in
    ap (λ (m : Bytes). pool_of c.write.new.self.bytes m c.args.self.now.cells) c.write.ensures.marks ∙ ap (λ (x : Bytes). pool_of x c.args.self.now.region.marks c.args.self.now.cells) c.write.ensures.bytes ∙ ap (λ (bs : List Block). record { cells = c.args.self.now.cells; blocks = bs; lies = None }) w.blocks

pub returns-clause-region : goal.returns-clause-region
returns-clause-region g c =
    let f : Found c.args.self.now.region.bytes.set c.args.self.now.region.marks.set c.args.cell c.in-Some.size = found c.args.self.now.region.bytes.set c.args.self.now.region.marks.set c.args.cell c.in-Some.size (sym c.in-Some.is ∙ c.size_of.ensures) in
    let s : IsStore c.args.self.now.region.bytes c.args.self.now.region.marks c.args.self.now.cells c.args.self.now.head = region_store c.args.self.now.region.bytes c.args.self.now.region.marks c.args.self.now.cells c.args.self.now.head c.args.cell c.requires.0 f.marked_in in
    let b : Held c.args.self.now.region.bytes.set c.args.self.now.cells c.args.cell = held c.args.self.now.region.bytes c.args.self.now.region.marks c.args.self.now.cells c.args.self.now.head c.args.cell s f.marked_in f.mark in
    let fits : c.args.at + length c.args.bytes.now ≤ word c.args.self.now.region.bytes.set (32 * c.args.cell) = omega (arith, f.size_is) in
    let w : WrittenIn c.args.self.now.region.bytes.set (put c.args.self.now.region.bytes.set (32 * c.args.cell + 8 + c.args.at) c.args.bytes.now) c.args.self.now.region.marks.set c.args.self.now.cells c.args.self.now.head c.args.cell c.args.at c.args.bytes.now =
    written_in c.args.self.now.region.bytes c.args.self.now.region.marks c.args.self.now.cells c.args.self.now.head c.args.cell c.args.at c.args.bytes.now s f.marked_in f.mark fits in
    let blocks : List Block = blocks_in c.args.self.now.region.bytes.set c.args.self.now.region.marks.set in (
      rw c.write.ensures.marks (inr (subst (λ (x : Bytes). IsStore x c.args.self.now.region.marks c.args.self.now.cells c.args.self.now.head) (sym c.write.ensures.bytes)
          (record { laid = w.laid; room = s.room; marks_room = s.marks_room; some = s.some; few = s.few }))),
      c.requires.1 ∙ sym (longest_written c.args.self.now.cells c.args.cell c.args.at 0 c.args.bytes.now blocks)
          ∙ sym (ap (λ (p : Pool). longest_run p.cells 0 p.blocks) (returns-clause-pool g c)),
    )
