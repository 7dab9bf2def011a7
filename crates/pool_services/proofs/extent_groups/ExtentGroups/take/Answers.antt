use Rattle.std.proofs.Common.{◌+◌, length, set, take, subst, ap}
use Rattle.pool_services.specs.Groups.{joined, rows_of}
use Rattle.pool_services.specs.Searches.{IsTakenAt}
use Rattle.pool_services.specs.Spots.{extents_of, index_of}
use Rattle.pool_services.proofs.ExtentChanges.{live-none, live-taken}
use Rattle.pool_services.proofs.GroupChanges.{in-old, in-row-of, order-at, same-apart, taken-apart, taken-groups, taken-length, used-groups}
use Rattle.pool_services.proofs.extent_groups.ExtentGroups.take.Goals as goal

pub take-requires-clause-order : goal.take-requires-clause-order
take-requires-clause-order g c =
    let old = c.self.inside.groups.items in let gs = c.first_with_room.new.groups.items in let k = c.in_ok-spot.spot.group in let i = c.in_ok-spot.spot.at in let s = c.in_ok-spot.ensures.first in
    let m = c.in_ok-spot.ensures.same in let l = in-old old gs k m s.0.0 in let x = c.index_mut.result.now in let e = c.index_mut.ensures.value in let a = same-apart old gs m c.self.invariant in
    order-at gs k x a.0 l e

pub take-requires-clause-index : goal.take-requires-clause-index
take-requires-clause-index g c =
    let old = c.self.inside.groups.items in let gs = c.first_with_room.new.groups.items in let k = c.in_ok-spot.spot.group in let i = c.in_ok-spot.spot.at in let s = c.in_ok-spot.ensures.first in
    let m = c.in_ok-spot.ensures.same in let l = in-old old gs k m s.0.0 in let x = c.index_mut.result.now in let e = c.index_mut.ensures.value in let a = same-apart old gs m c.self.invariant in
    in-row-of old gs k i x m l e s.0.1

pub invariant_of-self-2 : goal.invariant_of-self-2
invariant_of-self-2 g c =
    let old = c.self.inside.groups.items in let gs = c.first_with_room.new.groups.items in let k = c.in_ok-spot.spot.group in let i = c.in_ok-spot.spot.at in let s = c.in_ok-spot.ensures.first in
    let m = c.in_ok-spot.ensures.same in let l = in-old old gs k m s.0.0 in let x = c.index_mut.result.now in let e = c.index_mut.ensures.value in let a = same-apart old gs m c.self.invariant in
    let t = taken-groups gs k x c.take.new.self l e i c.args.size c.take.result (in-row-of old gs k i x m l e s.0.1) c.take.ensures in
    (taken-apart (extents_of gs) _ (index_of (rows_of gs) c.in_ok-spot.spot) c.args.size c.take.result a.0 t, used-groups gs k x c.take.new.self l e a.1 (taken-length x.extents.items c.take.new.self.extents.items i c.args.size c.take.result c.take.ensures))

pub returns : goal.returns
returns g c =
    let old = c.self.inside.groups.items in let gs = c.first_with_room.new.groups.items in let k = c.in_ok-spot.spot.group in let i = c.in_ok-spot.spot.at in let s = c.in_ok-spot.ensures.first in
    let m = c.in_ok-spot.ensures.same in let l = in-old old gs k m s.0.0 in let x = c.index_mut.result.now in let e = c.index_mut.ensures.value in let a = same-apart old gs m c.self.invariant in
    let t = taken-groups gs k x c.take.new.self l e i c.args.size c.take.result (in-row-of old gs k i x m l e s.0.1) c.take.ensures in
    let u = subst (λ rows. IsTakenAt (length (joined (take k rows)) + i) c.args.size (joined rows) c.take.result (extents_of (set gs k c.take.new.self))) m t in
    rw (← c.self.view_is) (live-taken c.args.mtype c.args.size (index_of (rows_of old) c.in_ok-spot.spot) (extents_of old) c.take.result _ c.self.invariant.0 s.1 u)

pub invariant_of-self : goal.invariant_of-self
invariant_of-self g c = same-apart c.self.inside.groups.items c.first_with_room.new.groups.items c.first_with_room.ensures.same c.self.invariant

pub returns-in_err-spot : goal.returns-in_err-spot
returns-in_err-spot g c =
    rw (c.from_residual.ensures, ← c.self.view_is) (ap joined c.in_err-spot.ensures.same, (live-none c.args.mtype c.args.size (extents_of c.self.inside.groups.items) c.self.invariant.0 c.in_err-spot.ensures.first).1)
