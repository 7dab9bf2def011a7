use Rattle.std.proofs.Common.{◌≡◌, ℕ, ◌<◌, ◌≤◌, None}
use Rattle.raw_pool.specs.Blocks.{block_at}
use Rattle.pool_services.proofs.extents.PoolExtent.next_block.Given as goal

abbrev pub invariant-loop-at : goal.invariant-loop-at
invariant-loop-at g l = (k : ℕ) → l.cell ≤ k → k < l.at → block_at k l.self.blocks ≡ None
