use Rattle.std.proofs.Common.{ℕ, sym, subst, arith}
use Rattle.raw_pool.specs.Blocks.{longest_run}
use Rattle.raw_pool.specs.FreeList.{blocks_in}
use Rattle.raw_pool.proofs.Regions.{Left, left_start, left_here, left_next, left_done}
use Rattle.raw_pool.proofs.store.Store.find_longest.Goals as goal

pub loop-next-init : goal.loop-next-init
loop-next-init g c = left_start c.args.self.now.region.bytes c.args.self.now.region.marks c.args.self.now.cells c.args.self.now.head c.requires

pub run_cells_in-requires-clause-set : goal.run_cells_in-requires-clause-set
run_cells_in-requires-clause-set g c = (left_here c.args.self.now.region.bytes.set c.args.self.now.cells c.args.self.now.head c.loop-next.next c.loop-next.longest (longest_run c.args.self.now.cells 0 (blocks_in c.args.self.now.region.bytes.set c.args.self.now.region.marks.set)) c.loop-next.invariant c.loop-next-test.true).set

pub link_in-next-requires-clause-set : goal.link_in-next-requires-clause-set
link_in-next-requires-clause-set g c = (left_here c.args.self.now.region.bytes.set c.args.self.now.cells c.args.self.now.head c.loop-next.next c.loop-next.longest (longest_run c.args.self.now.cells 0 (blocks_in c.args.self.now.region.bytes.set c.args.self.now.region.marks.set)) c.loop-next.invariant c.loop-next-test.true).set

pub loop-next-smaller : goal.loop-next-smaller
loop-next-smaller g c =
    let h = left_here c.args.self.now.region.bytes.set c.args.self.now.cells c.args.self.now.head c.loop-next.next c.loop-next.longest (longest_run c.args.self.now.cells 0 (blocks_in c.args.self.now.region.bytes.set c.args.self.now.region.marks.set)) c.loop-next.invariant c.loop-next-test.true in
    omega (arith, h.rises, h.within, c.link_in-next.ensures)

pub loop-next-preserved : goal.loop-next-preserved
loop-next-preserved g c =
    let b = c.args.self.now in
    let total : ℕ = longest_run b.cells 0 (blocks_in b.region.bytes.set b.region.marks.set) in
    subst (λ (k : ℕ). Left b.region.bytes.set b.cells b.head c.link_in-next.result k total) (sym c.larger-longest.ensures)
    (left_next b.region.bytes.set b.cells b.head c.loop-next.next c.loop-next.longest total c.run_cells_in.result c.link_in-next.result c.loop-next.invariant c.loop-next-test.true c.run_cells_in.ensures c.link_in-next.ensures)

pub returns : goal.returns
returns g c = left_done c.args.self.now.region.bytes.set c.args.self.now.cells c.args.self.now.head c.loop-next.next c.loop-next.longest (longest_run c.args.self.now.cells 0 (blocks_in c.args.self.now.region.bytes.set c.args.self.now.region.marks.set)) c.loop-next.invariant c.loop-next-test.false
