use Rattle.std.proofs.Common.{◌≡◌, ℕ, ◌+◌, ◌≤◌, None}
use Rattle.raw_pool.specs.Blocks.{block_at}
use Rattle.pool_services.proofs.extents.PoolExtent.block_up_to.Given as goal

abbrev pub invariant-loop-end : goal.invariant-loop-end
invariant-loop-end g l = record {
  bound : l.end ≤ l.cell + 1;
  none : (k : ℕ) → l.end ≤ k → k ≤ l.cell → block_at k l.self.blocks ≡ None;
}

abbrev pub decreases-loop-end : goal.decreases-loop-end
decreases-loop-end g l = l.end
