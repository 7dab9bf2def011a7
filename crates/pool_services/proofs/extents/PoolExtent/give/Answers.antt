use Rattle.std.proofs.Common.{ℕ, not, length, List, refl, sym, subst, ap, ◌∙◌, arith}
use Rattle.raw_pool.specs.Blocks.{Block, Pool, block_at}
use Rattle.pool_services.specs.Extents.{Extent}
use Rattle.pool_services.specs.Regions.{LiesAt}
use Rattle.pool_services.proofs.CellBlocks.{cell-free, cell-here, cell-none, count-without, none-goes, some-size}
use Rattle.pool_services.proofs.extents.PoolExtent.give.Goals as goal

abbrev of_blocks : ℕ → ℕ → ℕ → List Block → Extent
of_blocks first pages mtype bs = record { first = first; pages = pages; mtype = mtype; blocks = bs }

pub returns-in_default : goal.returns-in_default
returns-in_default g c = (cell-none c.args.self.now.first c.args.address c.args.self.now.blocks c.in_default.ensures, refl)

pub returns-then-is_none : goal.returns-then-is_none
returns-then-is_none g c =
    let bs = c.self.inside.region.blocks in
    let s = some-size (block_at c.in-Some.cell bs) c.size_of.result c.size_of.ensures ∙ c.is_none.ensures ∙ ap not c.if-is_none.true in
    (rw (← c.self.view_is) (cell-free c.self.inside.range.first c.args.address c.in-Some.cell bs (rw (← c.self.view_is) at c.in-Some.ensures) s), refl)

pub returns-then-self-eq1 : goal.returns-then-self-eq1
returns-then-self-eq1 g c =
    let bs = c.self.inside.region.blocks in
    let s = some-size (block_at c.in-Some.cell bs) c.size_of.result c.size_of.ensures ∙ c.is_none.ensures ∙ ap not c.if-is_none.false in
    (rw (← c.self.view_is) (cell-here c.self.inside.range.first c.args.address c.in-Some.cell bs (rw (← c.self.view_is) at c.in-Some.ensures) s), rw (← c.self.view_is) (sym c.self.invariant.1 ∙ c.if-self-eq1.true), refl)

pub invariant_of-self : goal.invariant_of-self
invariant_of-self g c =
    let p = c.give.ensures.pool in
    let n = none-goes c.in-Some.cell c.self.inside.region.blocks (sym c.give.ensures.given ∙ c.if-not-give.true) in
    (ap (λ (q : Pool). q.cells) p ∙ c.self.invariant.0, c.self.invariant.1 ∙ ap (λ (bs : List Block). length bs) (sym n) ∙ ap (λ (q : Pool). length q.blocks) (sym p), subst (λ (q : Pool). LiesAt c.self.inside.range.first q.lies) (sym p) c.self.invariant.2)

pub returns-then-not-give : goal.returns-then-not-give
returns-then-not-give g c =
    let p = c.give.ensures.pool in
    let s = sym c.give.ensures.given ∙ c.if-not-give.true in
    let n = none-goes c.in-Some.cell c.self.inside.region.blocks s in
    (rw (← c.self.view_is) (cell-free c.self.inside.range.first c.args.address c.in-Some.cell c.self.inside.region.blocks (rw (← c.self.view_is) at c.in-Some.ensures) s), rw (← c.self.view_is) (ap (λ (bs : List Block). of_blocks c.self.inside.range.first c.self.inside.range.pages c.self.inside.mtype bs) (ap (λ (q : Pool). q.blocks) p ∙ n)))

pub invariant_of-self-2 : goal.invariant_of-self-2
invariant_of-self-2 g c =
    let p = c.give.ensures.pool in
    let n = count-without c.in-Some.cell c.self.inside.region.blocks (sym c.give.ensures.given ∙ c.if-not-give.false) in
    (ap (λ (q : Pool). q.cells) p ∙ c.self.invariant.0, rw p (omega (arith, n, c.self.invariant.1)), subst (λ (q : Pool). LiesAt c.self.inside.range.first q.lies) (sym p) c.self.invariant.2)

pub returns : goal.returns
returns g c =
    let p = c.give.ensures.pool in
    let s = sym c.give.ensures.given ∙ c.if-not-give.false in
    let l = c.self.invariant.1 in
    (c.in-Some.cell, rw (← c.self.view_is) (cell-here c.self.inside.range.first c.args.address c.in-Some.cell c.self.inside.region.blocks (rw (← c.self.view_is) at c.in-Some.ensures) s), rw (← c.self.view_is) (λ e. c.if-self-eq1.false (l ∙ e)), rw (← c.self.view_is) (ap (λ (q : Pool). of_blocks c.self.inside.range.first c.self.inside.range.pages c.self.inside.mtype q.blocks) p))
