use Rattle.std.proofs.Common.{◌≡◌, ◌<◌, ◌∙◌, length, vec_len, refl, sym, ap, arith, subst}
use Rattle.std.proofs.lemmas.Bool.{eqb-false, eqb-true}
use Rattle.std.proofs.lemmas.Grind.{get_or-set_at}
use Rattle.pool_services.specs.Groups.{rows_of}
use Rattle.pool_services.specs.Spots.{extents_of, index_of}
use Rattle.pool_services.proofs.ExtentChanges.{are-gone-at}
use Rattle.pool_services.proofs.GroupChanges.{bare-gone, bare-used, gone-groups, in-groups, in-spot, used-some}
use Rattle.pool_services.proofs.extent_groups.ExtentGroups.remove.Goals.{else-spot-gt0-via-then-spot-gt0+else-is_empty, else-spot-gt0-via-else-spot-gt0}
use Rattle.pool_services.proofs.extent_groups.ExtentGroups.remove.Goals as goal

pub invariant_of-self : goal.invariant_of-self
invariant_of-self g c =
    let gs = c.self.inside.groups.items in let s = rw (← c.self.view_is) at c.requires in let k = c.args.spot.group in let l = in-groups gs k s.0 in let x = c.index_mut.result.now in let e = c.index_mut.ensures.value in let new = c.remove-extent.new.self in
    let same = c.index.ensures ∙ get_or-set_at gs k k new c.index.result.now refl l in
    let none : length new.extents.items ≡ 0 = subst (λ g'. length g'.extents.items ≡ 0) same (omega (arith, eqb-true (vec_len c.index.result.now.extents) 0 (sym c.if-is_empty.ensures))) in (
      are-gone-at (extents_of gs) (index_of (rows_of gs) c.args.spot) _ c.self.invariant.0 (bare-gone gs c.remove.new.self.items k new l none c.remove.ensures.by_index.2 ∙ gone-groups gs k x new l e c.args.spot.at (in-spot gs k x x l e c.args.spot.at s.1) c.remove-extent.ensures),
      bare-used gs c.remove.new.self.items k new c.self.invariant.1 c.if-spot-gt0.true c.remove.ensures.by_index.2,
    )

pub invariant_of-self-else-is_empty : goal.invariant_of-self-else-is_empty
invariant_of-self-else-is_empty g c =
    let gs = c.self.inside.groups.items in let s = rw (← c.self.view_is) at c.requires in let k = c.args.spot.group in let l = in-groups gs k s.0 in let x = c.index_mut.result.now in let e = c.index_mut.ensures.value in let new = c.remove-extent.new.self in
    let same = c.index.ensures ∙ get_or-set_at gs k k new c.index.result.now refl l in
    let some : 0 < length new.extents.items = subst (λ g'. 0 < length g'.extents.items) same (omega (arith, eqb-false (vec_len c.index.result.now.extents) 0 (sym c.if-is_empty.ensures))) in (
      are-gone-at (extents_of gs) (index_of (rows_of gs) c.args.spot) _ c.self.invariant.0 (gone-groups gs k x new l e c.args.spot.at (in-spot gs k x x l e c.args.spot.at s.1) c.remove-extent.ensures),
      used-some gs k x new l e c.self.invariant.1 (λ h. some),
    )

pub invariant_of-self-else-spot-gt0 : goal.invariant_of-self-else-spot-gt0
invariant_of-self-else-spot-gt0 g c =
    let gs = c.self.inside.groups.items in let s = rw (← c.self.view_is) at c.requires in let k = c.args.spot.group in let l = in-groups gs k s.0 in let x = c.index_mut.result.now in let e = c.index_mut.ensures.value in let new = c.remove-extent.new.self in (
      are-gone-at (extents_of gs) (index_of (rows_of gs) c.args.spot) _ c.self.invariant.0 (gone-groups gs k x new l e c.args.spot.at (in-spot gs k x x l e c.args.spot.at s.1) c.remove-extent.ensures),
      used-some gs k x new l e c.self.invariant.1 (λ h. absurd (omega (arith, h, c.if-spot-gt0.false))),
    )

pub returns-then-is_empty : goal.returns-then-is_empty
returns-then-is_empty g c =
    let gs = c.self.inside.groups.items in let s = rw (← c.self.view_is) at c.requires in let k = c.args.spot.group in let l = in-groups gs k s.0 in let x = c.index_mut.result.now in let e = c.index_mut.ensures.value in let new = c.remove-extent.new.self in
    let same = c.index.ensures ∙ get_or-set_at gs k k new c.index.result.now refl l in
    let none : length new.extents.items ≡ 0 = subst (λ g'. length g'.extents.items ≡ 0) same (omega (arith, eqb-true (vec_len c.index.result.now.extents) 0 (sym c.if-is_empty.ensures))) in
    rw (← c.self.view_is) (bare-gone gs c.remove.new.self.items k new l none c.remove.ensures.by_index.2 ∙ gone-groups gs k x new l e c.args.spot.at (in-spot gs k x x l e c.args.spot.at s.1) c.remove-extent.ensures)

pub returns-else-spot-gt0 : goal.returns-else-spot-gt0
returns-else-spot-gt0 g c =
    let gs = c.self.inside.groups.items in let s = rw (← c.self.view_is) at c.requires in let k = c.args.spot.group in let l = in-groups gs k s.0 in let x = c.index_mut.result.now in let e = c.index_mut.ensures.value in let new = c.remove-extent.new.self in
    let gone = gone-groups gs k x new l e c.args.spot.at (in-spot gs k x x l e c.args.spot.at s.1) c.remove-extent.ensures in
    elim c.else-spot-gt0.branch [
      | else-spot-gt0-via-then-spot-gt0+else-is_empty w ↦ rw (← c.self.view_is) (ap extents_of w.self-is ∙ gone)
      | else-spot-gt0-via-else-spot-gt0 w ↦ rw (← c.self.view_is) (ap extents_of w.self-is ∙ gone)
    ]
