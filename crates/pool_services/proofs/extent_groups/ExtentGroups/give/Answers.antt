use Rattle.std.proofs.Common.{Some, List, subst}
use Rattle.pool_services.specs.Extents.{Extent}
use Rattle.pool_services.specs.Groups.{rows_of}
use Rattle.pool_services.specs.Searches.{IsHolder}
use Rattle.pool_services.specs.Spots.{extents_of, index_of}
use Rattle.pool_services.proofs.ExtentChanges.{are-freed}
use Rattle.pool_services.proofs.GroupChanges.{freed-groups, freed-length, freed-spot, group-row, holder-in, in-groups, in-spot, order-at, used-groups}
use Rattle.pool_services.proofs.extent_groups.ExtentGroups.give.Goals as goal

pub give-requires-clause-order : goal.give-requires-clause-order
give-requires-clause-order g c =
    let gs = c.self.inside.groups.items in let s = rw (← c.self.view_is) at c.requires in
    order-at gs c.args.spot.group c.index_mut.result.now c.self.invariant.0 (in-groups gs c.args.spot.group s.0.0) c.index_mut.ensures.value

pub give-requires-clause-holder : goal.give-requires-clause-holder
give-requires-clause-holder g c =
    let gs = c.self.inside.groups.items in let s = rw (← c.self.view_is) at c.requires in let k = c.args.spot.group in
    subst (λ (es : List Extent). IsHolder es c.args.address (Some c.args.spot.at)) (group-row gs k c.index_mut.result.now (in-groups gs k s.0.0) c.index_mut.ensures.value)
    (holder-in (rows_of gs) k c.args.spot.at c.args.address s.0.0 s.0.1 s.1)

pub invariant_of-self : goal.invariant_of-self
invariant_of-self g c =
    let gs = c.self.inside.groups.items in let s = rw (← c.self.view_is) at c.requires in let k = c.args.spot.group in let l = in-groups gs k s.0.0 in let x = c.index_mut.result.now in let e = c.index_mut.ensures.value in
    let t = freed-groups gs k x c.give.new.self l e c.args.spot.at c.args.address c.give.result (in-spot gs k x x l e c.args.spot.at s.0.1) c.give.ensures in (
      are-freed c.args.address (index_of (rows_of gs) c.args.spot) (extents_of gs) _ c.give.result c.self.invariant.0 t,
      used-groups gs k x c.give.new.self l e c.self.invariant.1 (freed-length x.extents.items c.give.new.self.extents.items c.args.spot.at c.args.address c.give.result c.give.ensures),
    )

pub returns : goal.returns
returns g c =
    let gs = c.self.inside.groups.items in
    rw (← c.self.view_is) (freed-spot gs c.args.spot c.index_mut.result.now c.give.new.self c.args.address c.give.result c.self.invariant.0 (rw (← c.self.view_is) at c.requires) c.index_mut.ensures.value c.give.ensures)
