use Rattle.std.proofs.Common.{List, length, sym, ap, ◌∙◌, arith}
use Rattle.std.specs.List.{find}
use Rattle.pool_services.specs.Extents.{Extent}
use Rattle.pool_services.specs.Groups.{rows_of}
use Rattle.pool_services.specs.Listed.{blocks_of, is_from}
use Rattle.pool_services.proofs.GroupLists.{blocks-behind, blocks-from, blocks-in-group, nothing-behind}
use Rattle.pool_services.proofs.GroupChanges.{count-rows, group-row, order-at}
use Rattle.pool_services.proofs.extent_groups.ExtentGroups.block_from.Goals as goal

pub loop-at-init : goal.loop-at-init
loop-at-init g c = rw c.self.view_is at (blocks-from c.args.address c.group_up_to-at.result (rows_of c.self.inside.groups.items) c.self.invariant.0 (rw c.as_slice.ensures.value at c.group_up_to-at.ensures))

pub block_from-block-requires : goal.block_from-block-requires
block_from-block-requires g c = order-at c.self.inside.groups.items c.loop-at.at c.index.result.now c.self.invariant.0 (omega (arith, c.loop-at-test.true, c.len-at-end.ensures)) c.index.ensures

pub returns-then-is_some : goal.returns-then-is_some
returns-then-is_some g c =
    let gs = c.self.inside.groups.items in let r = group-row gs c.loop-at.at c.index.result.now (omega (arith, c.loop-at-test.true, c.len-at-end.ensures)) c.index.ensures in
    rw c.self.view_is at (blocks-in-group c.args.address c.loop-at.at (rows_of gs) c.block_from-block.result (omega (arith, c.loop-at-test.true, c.len-at-end.ensures, count-rows gs))
    (c.block_from-block.ensures ∙ ap (λ (es : List Extent). find (is_from c.args.address) (blocks_of es)) (sym r)) (sym c.is_some.ensures ∙ c.if-is_some.true))
    ∙ sym c.loop-at.invariant

pub loop-at-preserved : goal.loop-at-preserved
loop-at-preserved g c =
    let gs = c.self.inside.groups.items in let r = group-row gs c.loop-at.at c.index.result.now (omega (arith, c.loop-at-test.true, c.len-at-end.ensures)) c.index.ensures in
    c.loop-at.invariant
    ∙ rw c.self.view_is at (blocks-behind c.args.address c.loop-at.at (rows_of gs) c.block_from-block.result (omega (arith, c.loop-at-test.true, c.len-at-end.ensures, count-rows gs))
    (c.block_from-block.ensures ∙ ap (λ (es : List Extent). find (is_from c.args.address) (blocks_of es)) (sym r)) (sym c.is_some.ensures ∙ c.if-is_some.false))

pub returns : goal.returns
returns g c =
    let none = nothing-behind (rows_of c.args.self.now) c.loop-at.at (omega (arith, c.loop-at-test.false, c.len-at-end.ensures, count-rows c.args.self.now, ap (λ gs. length gs) c.self.view_is)) in
    sym (c.loop-at.invariant ∙ ap (λ (es : List Extent). find (is_from c.args.address) (blocks_of es)) none)
