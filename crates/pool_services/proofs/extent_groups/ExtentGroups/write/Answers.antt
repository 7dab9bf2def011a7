use Rattle.std.proofs.Common.{List, Some, length, refl, subst}
use Rattle.pool_services.specs.Extents.{Extent}
use Rattle.pool_services.specs.Groups.{rows_of}
use Rattle.pool_services.specs.Searches.{IsHolder}
use Rattle.pool_services.specs.Spots.{extents_of, index_of}
use Rattle.pool_services.proofs.ExtentLists.{no-tail}
use Rattle.pool_services.proofs.ExtentChanges.{not-in-block}
use Rattle.pool_services.proofs.GroupChanges.{in-groups, group-row, holder-in, in-spot, order-at, used-groups, written-apart, written-groups, written-in, written-length}
use Rattle.pool_services.proofs.extent_groups.ExtentGroups.write.Goals as goal

pub write-requires-clause-order : goal.write-requires-clause-order
write-requires-clause-order g c =
    let gs = c.self.inside.groups.items in let s = rw (← c.self.view_is) at c.in-Some.ensures.holder in
    order-at gs c.in-Some.spot.group c.index_mut.result.now c.self.invariant.0 (in-groups gs c.in-Some.spot.group s.0.0) c.index_mut.ensures.value

pub write-requires-clause-holder : goal.write-requires-clause-holder
write-requires-clause-holder g c =
    let gs = c.self.inside.groups.items in let s = rw (← c.self.view_is) at c.in-Some.ensures.holder in let k = c.in-Some.spot.group in
    subst (λ (es : List Extent). IsHolder es c.args.address (Some c.in-Some.spot.at)) (group-row gs k c.index_mut.result.now (in-groups gs c.in-Some.spot.group s.0.0) c.index_mut.ensures.value)
    (holder-in (rows_of gs) k c.in-Some.spot.at c.args.address s.0.0 s.0.1 s.1)

pub invariant_of-self : goal.invariant_of-self
invariant_of-self g c =
    let gs = c.self.inside.groups.items in let s = rw (← c.self.view_is) at c.in-Some.ensures.holder in let k = c.in-Some.spot.group in let l = in-groups gs k s.0.0 in let x = c.index_mut.result.now in let e = c.index_mut.ensures.value in
    let t = written-groups gs k x c.write.new.self l e c.in-Some.spot.at c.args.address c.args.bytes.now c.write.result (in-spot gs k x x l e c.in-Some.spot.at s.0.1) c.write.ensures in (
      written-apart (extents_of gs) _ (index_of (rows_of gs) c.in-Some.spot) c.args.address c.args.bytes.now c.write.result c.self.invariant.0 s.1 t,
      used-groups gs k x c.write.new.self l e c.self.invariant.1 (written-length x.extents.items c.write.new.self.extents.items c.in-Some.spot.at c.args.address c.args.bytes.now c.write.result c.write.ensures),
    )

pub returns-in-Some : goal.returns-in-Some
returns-in-Some g c =
    let gs = c.self.inside.groups.items in let s = rw (← c.self.view_is) at c.in-Some.ensures.holder in let k = c.in-Some.spot.group in let l = in-groups gs k s.0.0 in let x = c.index_mut.result.now in let e = c.index_mut.ensures.value in
    let t = written-groups gs k x c.write.new.self l e c.in-Some.spot.at c.args.address c.args.bytes.now c.write.result (in-spot gs k x x l e c.in-Some.spot.at s.0.1) c.write.ensures in
    rw (← c.self.view_is) (written-in (extents_of gs) _ (index_of (rows_of gs) c.in-Some.spot) c.args.address c.args.bytes.now c.write.result c.self.invariant.0 s.1 t)

pub returns-in-None : goal.returns-in-None
returns-in-None g c = (not-in-block c.args.address (length c.args.bytes.now) (extents_of c.args.self.now) (no-tail c.args.address (extents_of c.args.self.now) c.in-None.ensures.apart.0 c.in-None.ensures.holder), refl)
