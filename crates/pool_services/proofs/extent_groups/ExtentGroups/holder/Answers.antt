use Rattle.std.proofs.Common.{◌-◌, ◌/◌, None, Some, List, refl, sym, subst, arith}
use Rattle.pool_services.specs.Extents.{Extent}
use Rattle.pool_services.specs.Groups.{rows_of}
use Rattle.pool_services.specs.Searches.{IsHolder}
use Rattle.pool_services.proofs.ExtentLists.{address-holder, none-below}
use Rattle.pool_services.proofs.GroupLists.{holder-none, holder-some}
use Rattle.pool_services.proofs.GroupChanges.{count-rows, in-rows, group-row, order-at}
use Rattle.pool_services.proofs.extent_groups.ExtentGroups.holder.Goals as goal

pub holder-requires : goal.holder-requires
holder-requires g c = order-at c.self.inside.groups.items c.group_up_to-group.result c.index.result.now c.self.invariant.0 (omega (arith, c.if-group-len.false, c.len.ensures)) c.index.ensures

pub returns-in_err-at-clause-holder : goal.returns-in_err-at-clause-holder
returns-in_err-at-clause-holder g c =
    let gs = c.self.inside.groups.items in let k = c.group_up_to-group.result in let r = group-row gs k c.index.result.now (omega (arith, c.if-group-len.false, c.len.ensures)) c.index.ensures in
    rw (c.from_residual.ensures, ← c.self.view_is) (holder-none c.args.address k (rows_of gs) (rw c.as_slice.ensures.value at c.group_up_to-group.ensures) (omega (arith, c.if-group-len.false, c.len.ensures, count-rows gs))
    (subst (λ (es : List Extent). IsHolder es c.args.address None) (sym r) (address-holder ((c.args.address - 8) / 4096) c.args.address c.index.result.now.extents.items None c.if-address-lt-HEADER_SIZE.false refl c.in_err-at.ensures)))

pub returns-clause-holder : goal.returns-clause-holder
returns-clause-holder g c =
    let gs = c.self.inside.groups.items in let k = c.group_up_to-group.result in let r = group-row gs k c.index.result.now (omega (arith, c.if-group-len.false, c.len.ensures)) c.index.ensures in
    let h = subst (λ (es : List Extent). IsHolder es c.args.address (Some c.in_ok-at.at)) (sym r) (address-holder ((c.args.address - 8) / 4096) c.args.address c.index.result.now.extents.items (Some c.in_ok-at.at) c.if-address-lt-HEADER_SIZE.false refl c.in_ok-at.ensures) in let l = in-rows gs k c.len.result (omega (arith, c.len.ensures)) c.if-group-len.false in
    rw (← c.self.view_is) ((l, h.1.0), holder-some c.args.address k c.in_ok-at.at (rows_of gs) l h)

pub returns-then-address-lt-HEADER_SIZE-clause-holder : goal.returns-then-address-lt-HEADER_SIZE-clause-holder
returns-then-address-lt-HEADER_SIZE-clause-holder g c = none-below c.args.address _ c.if-address-lt-HEADER_SIZE.true
