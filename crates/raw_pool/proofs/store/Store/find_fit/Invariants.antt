use Rattle.std.proofs.Common.{◌-◌, ◌<◌}
use Rattle.raw_pool.specs.Searches.{Scan, runs_of}
use Rattle.raw_pool.proofs.store.Store.find_fit.Given as goal

abbrev pub invariant-loop-next : goal.invariant-loop-next
invariant-loop-next g l = Scan (λ r. r.cells < l.need) l.self.region.bytes.set l.self.cells l.self.head (runs_of l.self.region.bytes l.self.region.marks l.self.cells) l.last l.next

abbrev pub decreases-loop-next : goal.decreases-loop-next
decreases-loop-next g l = l.self.cells - l.next
