use Rattle.std.proofs.Common.{arith}
use Rattle.pool_services.proofs.ListedBlocks.{next_none, next_some}
use Rattle.pool_services.proofs.extents.PoolExtent.next_block.Goals as goal

pub returns-in-Some : goal.returns-in-Some
returns-in-Some g c =
    let b = rw (← c.self.view_is) at c.requires.blocks in
    let n = rw (← c.self.view_is) at c.loop-at.invariant in
    rw (← c.self.view_is) (next_some _ c.args.cell c.loop-at.at c.in-Some.size c.self.inside.region.blocks b (omega arith) c.in-Some.ensures n)

pub returns : goal.returns
returns g c =
    let b = rw (← c.self.view_is) at c.requires.blocks in
    let n = rw (← c.self.view_is) at c.loop-at.invariant in
    rw (← c.self.view_is) (next_none _ c.args.cell c.self.inside.region.blocks b (λ k a u. n k a (omega (arith, c.loop-at-test.false))))
