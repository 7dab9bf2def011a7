use Rattle.std.proofs.Common.{◌-◌}
use Rattle.raw_pool.specs.Blocks.{longest_run}
use Rattle.raw_pool.specs.FreeList.{blocks_in}
use Rattle.raw_pool.proofs.Regions.{Left}
use Rattle.raw_pool.proofs.store.Store.find_longest.Given as goal

abbrev pub invariant-loop-next : goal.invariant-loop-next
invariant-loop-next g l = Left l.self.region.bytes.set l.self.cells l.self.head l.next l.longest (longest_run l.self.cells 0 (blocks_in l.self.region.bytes.set l.self.region.marks.set))

abbrev pub decreases-loop-next : goal.decreases-loop-next
decreases-loop-next g l = l.self.cells - l.next
