use Rattle.std.proofs.Common.{◌≡◌, suc, ◌-◌, sym, ◌∙◌, arith}
use Rattle.pool_services.specs.Searches.{IsAt}
use Rattle.pool_services.proofs.ExtentLists.{first-above, behind-none, last-up-to, is-extent}
use Rattle.pool_services.proofs.RoomLists.{rooms-within}
use Rattle.pool_services.proofs.extent_group.ExtentGroup.holder.Goals as goal

pub returns-then-count-eq0 : goal.returns-then-count-eq0
returns-then-count-eq0 g c =
    let p = c.count_up_to-count.ensures.place c.args.self.now.extents.items c.requires (c.as_slice.ensures.value ∙ c.args.self.now.alike) in
    first-above c.args.page c.args.self.now.extents.items c.requires (sym p ∙ c.if-count-eq0.true)

pub index-requires : goal.index-requires
index-requires g c = omega (arith, rooms-within c.as_slice.result.now c.args.self.now.extents.items c.count_up_to-count.result (c.as_slice.ensures.value ∙ c.args.self.now.alike) c.count_up_to-count.ensures.bound, c.if-count-eq0.false)

pub overflow_add-range : goal.overflow_add-range
overflow_add-range g c =
    let w = rooms-within c.as_slice.result.now c.args.self.now.extents.items c.count_up_to-count.result (c.as_slice.ensures.value ∙ c.args.self.now.alike) c.count_up_to-count.ensures.bound in
    let e = is-extent c.args.self.now.extents.items (c.count_up_to-count.result - 1) c.index.result.now c.requires (omega (arith, w, c.if-count-eq0.false), c.index.ensures) in
    omega (arith, e.within, c.range-range.ensures)

pub returns-then-page-range : goal.returns-then-page-range
returns-then-page-range g c =
    let e = c.as_slice.ensures.value ∙ c.args.self.now.alike in
    let w = rooms-within c.as_slice.result.now c.args.self.now.extents.items c.count_up_to-count.result e c.count_up_to-count.ensures.bound in
    let t : IsAt c.args.self.now.extents.items (c.count_up_to-count.result - 1) c.index.result.now = (omega (arith, w, c.if-count-eq0.false), c.index.ensures) in
    let n : c.count_up_to-count.result ≡ suc (c.count_up_to-count.result - 1) = omega (arith, c.if-count-eq0.false) in
    let l = last-up-to c.args.page c.args.self.now.extents.items (c.count_up_to-count.result - 1) c.index.result.now (sym (c.count_up_to-count.ensures.place c.args.self.now.extents.items c.requires e) ∙ n) t in
    (c.index.result.now, t, (l, omega (arith, c.if-page-range.true, c.range-range.ensures)))

pub returns-else-page-range : goal.returns-else-page-range
returns-else-page-range g c =
    let e = c.as_slice.ensures.value ∙ c.args.self.now.alike in
    let w = rooms-within c.as_slice.result.now c.args.self.now.extents.items c.count_up_to-count.result e c.count_up_to-count.ensures.bound in
    let t : IsAt c.args.self.now.extents.items (c.count_up_to-count.result - 1) c.index.result.now = (omega (arith, w, c.if-count-eq0.false), c.index.ensures) in
    let n : c.count_up_to-count.result ≡ suc (c.count_up_to-count.result - 1) = omega (arith, c.if-count-eq0.false) in
    behind-none c.args.page c.args.self.now.extents.items (c.count_up_to-count.result - 1) c.index.result.now c.requires
    (sym (c.count_up_to-count.ensures.place c.args.self.now.extents.items c.requires e) ∙ n) t (omega (arith, c.if-page-range.false, c.range-range.ensures))

pub overflow_sub-count : goal.overflow_sub-count
overflow_sub-count g c = omega (arith, c.if-count-eq0.false)
