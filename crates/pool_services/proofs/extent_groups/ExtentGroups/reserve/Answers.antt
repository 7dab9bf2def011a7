use Rattle.std.proofs.Common.{◌∙◌, sym, ap, arith, subst}
use Rattle.pool_services.specs.Groups.{IsGroupOf, joined}
use Rattle.pool_services.specs.Spots.{extents_of}
use Rattle.pool_services.proofs.GroupChanges.{count-rows, in-groups, place-at, same-apart, same-groups}
use Rattle.pool_services.proofs.extent_groups.ExtentGroups.reserve.Goals as goal

pub returns : goal.returns
returns g c =
    let gs = c.roomy_group.new.groups.items in let k = c.in_ok-at.at in let l = in-groups gs k (c.in_ok-at.ensures.group.within (omega (arith, c.in_ok-at.ensures.some, count-rows gs))) in
    let s = same-groups gs k c.index_mut.result.now c.reserve_one.new.self l c.index_mut.ensures.value c.in_ok-reserve_one.ensures.extents in
    record {
      extents = ap joined s ∙ c.in_ok-at.ensures.extents ∙ c.in_ok-begin.ensures.extents ∙ ap extents_of c.self.view_is;
      group = subst (λ rows. IsGroupOf c.args.page rows k) (sym s) c.in_ok-at.ensures.group;
      place = place-at gs k c.reserve_one.new.self l c.in_ok-reserve_one.ensures.place;
      apart = (same-apart gs _ s c.in_ok-at.ensures.apart).0;
    }

pub invariant_of-self-in_err-reserve_one : goal.invariant_of-self-in_err-reserve_one
invariant_of-self-in_err-reserve_one g c =
    let gs = c.roomy_group.new.groups.items in let k = c.in_ok-at.at in let l = in-groups gs k (c.in_ok-at.ensures.group.within (omega (arith, c.in_ok-at.ensures.some, count-rows gs))) in
    same-apart gs _ (same-groups gs k c.index_mut.result.now c.reserve_one.new.self l c.index_mut.ensures.value c.in_err-reserve_one.ensures.extents) c.in_ok-at.ensures.apart

pub returns-in_err-reserve_one-clause-extents : goal.returns-in_err-reserve_one-clause-extents
returns-in_err-reserve_one-clause-extents g c =
    let gs = c.roomy_group.new.groups.items in let k = c.in_ok-at.at in let l = in-groups gs k (c.in_ok-at.ensures.group.within (omega (arith, c.in_ok-at.ensures.some, count-rows gs))) in
    ap joined (same-groups gs k c.index_mut.result.now c.reserve_one.new.self l c.index_mut.ensures.value c.in_err-reserve_one.ensures.extents) ∙ c.in_ok-at.ensures.extents ∙ c.in_ok-begin.ensures.extents ∙ ap extents_of c.self.view_is

pub invariant_of-self-2 : goal.invariant_of-self-2
invariant_of-self-2 g c =
    let gs = c.roomy_group.new.groups.items in let k = c.in_ok-at.at in let l = in-groups gs k (c.in_ok-at.ensures.group.within (omega (arith, c.in_ok-at.ensures.some, count-rows gs))) in
    same-apart gs _ (same-groups gs k c.index_mut.result.now c.reserve_one.new.self l c.index_mut.ensures.value c.in_ok-reserve_one.ensures.extents) c.in_ok-at.ensures.apart

pub returns-in_err-reserve_one-clause-apart : goal.returns-in_err-reserve_one-clause-apart
returns-in_err-reserve_one-clause-apart g c =
    let gs = c.roomy_group.new.groups.items in let k = c.in_ok-at.at in let l = in-groups gs k (c.in_ok-at.ensures.group.within (omega (arith, c.in_ok-at.ensures.some, count-rows gs))) in
    (same-apart gs _ (same-groups gs k c.index_mut.result.now c.reserve_one.new.self l c.index_mut.ensures.value c.in_err-reserve_one.ensures.extents) c.in_ok-at.ensures.apart).0
