use Rattle.std.proofs.Common.{◌<◌, arith}
use Rattle.raw_pool.proofs.Scans.{store_scan, store_here, store_step}
use Rattle.raw_pool.proofs.store.Store.find_place.Goals as goal

pub loop-next-init : goal.loop-next-init
loop-next-init g c = store_scan (λ r. r.first < c.args.cell) c.args.self.now.region.bytes c.args.self.now.region.marks c.args.self.now.cells c.args.self.now.head c.requires.store

pub link_in-next-requires-clause-set : goal.link_in-next-requires-clause-set
link_in-next-requires-clause-set g c =
    (store_here (λ r. r.first < c.args.cell) c.args.self.now.region.bytes c.args.self.now.region.marks c.args.self.now.cells c.args.self.now.head c.loop-next.last c.loop-next.next c.requires.store c.loop-next.invariant (omega arith)).set

pub loop-next-smaller : goal.loop-next-smaller
loop-next-smaller g c =
    let h = store_here (λ r. r.first < c.args.cell) c.args.self.now.region.bytes c.args.self.now.region.marks c.args.self.now.cells c.args.self.now.head c.loop-next.last c.loop-next.next c.requires.store c.loop-next.invariant (omega arith) in
    omega (arith, h.rises, h.within, c.link_in-next.ensures)

pub loop-next-preserved : goal.loop-next-preserved
loop-next-preserved g c =
    store_step (λ r. r.first < c.args.cell) c.args.self.now.region.bytes c.args.self.now.region.marks c.args.self.now.cells c.args.self.now.head c.loop-next.last c.loop-next.next c.link_in-next.result c.loop-next.invariant (omega arith)
    (λ r e i. omega arith) c.link_in-next.ensures
