use Rattle.std.proofs.Common.{ℕ, Option, length, subst, sym, ◌∙◌}
use Rattle.pool_services.specs.Regions.{LiesAt}
use Rattle.pool_services.proofs.CellBlocks.{written-kept, written-lies, room-returned, extent-written}
use Rattle.pool_services.proofs.extents.PoolExtent.write.Goals as goal

pub invariant_of-self : goal.invariant_of-self
invariant_of-self g c =
    let k = written-kept c.write.result c.in-Some.cell c.in-Some.at c.args.bytes.now c.self.inside.region in
    let i = c.self.invariant in
    let lies = written-lies c.write.result c.in-Some.cell c.in-Some.at c.args.bytes.now c.self.inside.region in
    rw c.write.ensures.pool (k.0 ∙ i.0, i.1 ∙ sym k.1, subst (λ (l : Option ℕ). LiesAt c.self.inside.range.first l) (sym lies) i.2)

pub returns-in-Some-clause-written : goal.returns-in-Some-clause-written
returns-in-Some-clause-written g c =
    let b = rw (← c.self.view_is) at c.requires.extent.blocks in
    let n = rw (← c.self.view_is) at (c.in-Some.ensures) in
    rw (← c.self.view_is) (room-returned _ c.self.inside.range.first c.args.address c.in-Some.cell c.in-Some.at (length c.args.bytes.now) c.write.result c.self.inside.region.blocks b n.2 c.write.ensures.written)

pub returns-in-Some-clause-extent : goal.returns-in-Some-clause-extent
returns-in-Some-clause-extent g c =
    let b = rw (← c.self.view_is) at c.requires.extent.blocks in
    let n = rw (← c.self.view_is) at (c.in-Some.ensures) in
    rw (c.write.ensures.pool, ← c.self.view_is) (extent-written _ c.self.inside.range.first c.self.inside.range.pages c.self.inside.mtype c.args.address c.in-Some.cell c.in-Some.at c.args.bytes.now c.write.result c.self.inside.region b n.1 c.write.ensures.written)
