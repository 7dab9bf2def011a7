use Rattle.std.proofs.Common.{ap, ◌∙◌, arith, subst, sym}
use Rattle.raw_pool.specs.Blocks.{Pool, new_block}
use Rattle.pool_services.specs.Regions.{LiesAt}
use Rattle.pool_services.proofs.CellBlocks.{count-within, count-with}
use Rattle.pool_services.proofs.extents.PoolExtent.take.Goals as goal

pub overflow_add-self : goal.overflow_add-self
overflow_add-self g c =
    let b = rw (← c.self.view_is) at c.requires.blocks in
    let f = rw (← c.self.view_is) at c.requires.few in
    omega (arith, count-within _ _ _ b, f, c.self.invariant.1)

pub invariant_of-self-2 : goal.invariant_of-self-2
invariant_of-self-2 g c =
    let p = c.in_ok-cell.ensures.pool in
    let n = count-with (new_block c.in_ok-cell.cell c.args.size) c.self.inside.region.blocks in
    (ap (λ (p : Pool). p.cells) p ∙ c.self.invariant.0, rw p (omega (arith, n, c.self.invariant.1)), subst (λ (q : Pool). LiesAt c.self.inside.range.first q.lies) (sym p) c.self.invariant.2)
