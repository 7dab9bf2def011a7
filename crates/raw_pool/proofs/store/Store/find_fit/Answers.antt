use Rattle.std.proofs.Common.{◌≡◌, ℕ, ◌*◌, ◌<◌, ap, ◌∙◌, arith}
use Rattle.raw_pool.specs.Bytes.{word}
use Rattle.raw_pool.proofs.Scans.{store_scan, store_here, store_step, store_done}
use Rattle.raw_pool.proofs.store.Store.find_fit.Goals as goal

pub loop-next-init : goal.loop-next-init
loop-next-init g c = store_scan (λ r. r.cells < c.args.need) c.args.self.now.region.bytes c.args.self.now.region.marks c.args.self.now.cells c.args.self.now.head c.requires

pub run_cells_in-requires-clause-set : goal.run_cells_in-requires-clause-set
run_cells_in-requires-clause-set g c =
    (store_here (λ r. r.cells < c.args.need) c.args.self.now.region.bytes c.args.self.now.region.marks c.args.self.now.cells c.args.self.now.head c.loop-next.last c.loop-next.next c.requires c.loop-next.invariant c.loop-next-test.true).set

pub link_in-next-requires-clause-set : goal.link_in-next-requires-clause-set
link_in-next-requires-clause-set g c =
    (store_here (λ r. r.cells < c.args.need) c.args.self.now.region.bytes c.args.self.now.region.marks c.args.self.now.cells c.args.self.now.head c.loop-next.last c.loop-next.next c.requires c.loop-next.invariant c.loop-next-test.true).set

pub loop-next-smaller : goal.loop-next-smaller
loop-next-smaller g c =
    let h = store_here (λ r. r.cells < c.args.need) c.args.self.now.region.bytes c.args.self.now.region.marks c.args.self.now.cells c.args.self.now.head c.loop-next.last c.loop-next.next c.requires c.loop-next.invariant c.loop-next-test.true in
    omega (arith, h.rises, h.within, c.link_in-next.ensures)

pub loop-next-preserved : goal.loop-next-preserved
loop-next-preserved g c =
    store_step (λ r. r.cells < c.args.need) c.args.self.now.region.bytes c.args.self.now.region.marks c.args.self.now.cells c.args.self.now.head c.loop-next.last c.loop-next.next c.link_in-next.result c.loop-next.invariant c.loop-next-test.true
    (λ r e i. let w : word c.args.self.now.region.bytes.set (32 * c.loop-next.next) ≡ r.cells = ap (λ (k : ℕ). word c.args.self.now.region.bytes.set (32 * k)) e ∙ i.0 in omega arith) c.link_in-next.ensures

pub returns : goal.returns
returns g c = store_done (λ r. r.cells < c.args.need) c.args.self.now.region.bytes c.args.self.now.region.marks c.args.self.now.cells c.args.self.now.head c.loop-next.last c.loop-next.next c.requires c.loop-next.invariant c.loop-next-test.false
