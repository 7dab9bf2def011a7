use Rattle.std.proofs.Common.{◌∙◌, sym, arith}
use Rattle.pool_services.specs.Searches.{IsAt}
use Rattle.pool_services.proofs.ExtentLists.{is-extent}
use Rattle.pool_services.proofs.ListedBlocks.{found_here, found_later, started}
use Rattle.pool_services.proofs.RoomLists.{rooms-within}
use Rattle.pool_services.proofs.extent_group.ExtentGroup.block_from.Goals as goal

pub loop-at-init : goal.loop-at-init
loop-at-init g c =
    let e = c.as_slice.ensures.value ∙ c.args.self.now.alike in
    let w = rooms-within c.as_slice.result.now c.args.self.now.extents.items c.count_up_to-count.result e c.count_up_to-count.ensures.bound in
    let s = started c.args.address c.count_up_to-count.result c.args.self.now.extents.items c.requires w (c.count_up_to-count.ensures.place c.args.self.now.extents.items c.requires e) in
    rw c.saturating_sub-at.ensures s

pub block_from-block-requires : goal.block_from-block-requires
block_from-block-requires g c =
    is-extent c.args.self.now.extents.items c.loop-at.at c.index.result.now c.requires (omega (arith, c.loop-at-test.true, c.len-at-end.ensures), c.index.ensures)

pub returns-then-is_some : goal.returns-then-is_some
returns-then-is_some g c =
    let t : IsAt c.args.self.now.extents.items c.loop-at.at c.index.result.now = (omega (arith, c.loop-at-test.true, c.len-at-end.ensures), c.index.ensures) in
    found_here c.args.address c.loop-at.at c.args.self.now.extents.items c.index.result.now c.block_from-block.result t c.block_from-block.ensures (sym c.is_some.ensures ∙ c.if-is_some.true) ∙ sym c.loop-at.invariant

pub loop-at-preserved : goal.loop-at-preserved
loop-at-preserved g c =
    let t : IsAt c.args.self.now.extents.items c.loop-at.at c.index.result.now = (omega (arith, c.loop-at-test.true, c.len-at-end.ensures), c.index.ensures) in
    let l = found_later c.args.address c.loop-at.at c.args.self.now.extents.items c.index.result.now c.block_from-block.result t c.block_from-block.ensures (sym c.is_some.ensures ∙ c.if-is_some.false) in
    c.loop-at.invariant ∙ l
