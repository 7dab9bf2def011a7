use Rattle.std.proofs.Common.{◌≡◌, subst, sym, ◌∙◌, refl, Some}
use Rattle.std.proofs.lemmas.Bool.{eq-eqb}
use Rattle.guid_handles.specs.Indexes.{AreGroups, stamp_in}
use Rattle.guid_handles.proofs.Grouped.{got, groups_set, held_by, stamp_changed, stamp_there, put_back}
use Rattle.guid_handles.proofs.Refused.{on_err}
use Rattle.guid_handles.proofs.groups.Groups.add_at.Goals as goal

pub add-requires : goal.add-requires
add-requires g c =
    let place = rw (← c.self.view_is) at c.requires.place in
    let there = got _ _ _ place.0 c.index_mut.ensures.value in
    sym (stamp_there _ c.args.guid _ _ place there c.args.handle) ∙ rw (← c.self.view_is) at c.requires.absent

pub invariant_of-self-2 : goal.invariant_of-self-2
invariant_of-self-2 g c =
    let place = rw (← c.self.view_is) at c.requires.place in
    let there : stamp_in c.add.new.self c.args.handle ≡ Some c.args.stamp = c.in_ok-add.ensures.ok c.args.handle ∙ rw (eq-eqb c.args.handle c.args.handle refl) refl in
    groups_set _ _ _ _ c.self.invariant (got _ _ _ place.0 c.index_mut.ensures.value) c.add.ensures.guid (held_by c.add.new.self c.args.handle c.args.stamp there)

pub returns-clause-ok : goal.returns-clause-ok
returns-clause-ok g c =
    let place = rw (← c.self.view_is) at c.requires.place in
    rw (← c.self.view_is)
    (stamp_changed _ c.args.guid _ _ _ c.args.handle (Some c.args.stamp) place (got _ _ _ place.0 c.index_mut.ensures.value) c.add.ensures.guid c.in_ok-add.ensures.ok)

pub returns-in_err-add-clause-err : goal.returns-in_err-add-clause-err
returns-in_err-add-clause-err g c =
    on_err c.from_residual.result _
    (rw (← c.self.view_is) (put_back c.self.inside.groups.items c.args.at _ _ c.in_err-add.ensures.err c.index_mut.ensures.value))

pub index_mut-requires : goal.index_mut-requires
index_mut-requires g c = let place = rw (← c.self.view_is) at c.requires.place in rw c.self.inside.groups.ok.0 place.0

pub invariant_of-self : goal.invariant_of-self
invariant_of-self g c = subst AreGroups (sym (put_back c.self.inside.groups.items c.args.at _ _ c.in_err-add.ensures.err c.index_mut.ensures.value)) c.self.invariant
