use Rattle.std.proofs.Common.{◌≡◌, ap, is_some, refl, sym, ◌∙◌, Some}
use Rattle.std.proofs.lemmas.Bool.{eq-eqb}
use Rattle.guid_handles.specs.Indexes.{stamp_in}
use Rattle.guid_handles.proofs.Grouped.{got, groups_set, held_by, stamp_changed, stamp_there}
use Rattle.guid_handles.proofs.groups.Groups.restamp_at.Goals as goal

pub restamp-requires : goal.restamp-requires
restamp-requires g c =
    let place = rw (← c.self.view_is) at c.requires.place in
    ap is_some (sym (stamp_there _ c.args.guid _ _ place (got _ _ _ place.0 c.index_mut.ensures.value) c.args.handle)) ∙ rw (← c.self.view_is) at c.requires.there

pub invariant_of-self : goal.invariant_of-self
invariant_of-self g c =
    let place = rw (← c.self.view_is) at c.requires.place in
    let there : stamp_in c.restamp.new.self c.args.handle ≡ Some c.args.stamp = c.restamp.ensures.stamps c.args.handle ∙ rw (eq-eqb c.args.handle c.args.handle refl) refl in
    groups_set _ _ _ _ c.self.invariant (got _ _ _ place.0 c.index_mut.ensures.value) c.restamp.ensures.guid (held_by c.restamp.new.self c.args.handle c.args.stamp there)

pub returns : goal.returns
returns g c =
    let place = rw (← c.self.view_is) at c.requires.place in
    rw (← c.self.view_is) (stamp_changed _ c.args.guid _ _ _ c.args.handle (Some c.args.stamp) place (got _ _ _ place.0 c.index_mut.ensures.value) c.restamp.ensures.guid c.restamp.ensures.stamps)

pub index_mut-requires : goal.index_mut-requires
index_mut-requires g c = let place = rw (← c.self.view_is) at c.requires.place in rw c.self.inside.groups.ok.0 place.0
