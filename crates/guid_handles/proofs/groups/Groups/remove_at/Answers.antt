use Rattle.std.proofs.Common.{[], None, ap, is_some, refl, sym, ◌∙◌}
use Rattle.guid_handles.proofs.Grouped.{bare_removed, got, groups_remove, groups_set, only_goes, remove_set, stamp_changed, stamp_there, still_held}
use Rattle.guid_handles.proofs.groups.Groups.remove_at.Goals as goal

pub invariant_of-self : goal.invariant_of-self
invariant_of-self g c = rw (c.remove.ensures.items, remove_set c.self.inside.groups.items c.args.at c.index_mut-group.result.now) (groups_remove c.self.inside.groups.items c.args.at c.self.invariant)

pub invariant_of-self-else-holders-eq1 : goal.invariant_of-self-else-holders-eq1
invariant_of-self-else-holders-eq1 g c =
    let place = rw (← c.self.view_is) at c.requires.place in
    let group = got _ _ _ place.0 c.index_mut-group.ensures.value in
    let stamp = ap is_some (sym (stamp_there _ c.args.guid _ _ place group c.args.handle)) ∙ rw (← c.self.view_is) at c.requires.there in
    groups_set _ _ _ _ c.self.invariant group c.remove-else-holders-eq1.ensures.guid
    (still_held c.index_mut-group.result.now c.remove-else-holders-eq1.new.self c.args.handle stamp (rw c.holders.ensures.holders at c.if-holders-eq1.false) c.remove-else-holders-eq1.ensures.fewer)

pub returns-then-holders-eq1 : goal.returns-then-holders-eq1
returns-then-holders-eq1 g c = λ k n.
    let place = rw (← c.self.view_is) at c.requires.place in
    let group = got _ _ _ place.0 c.index_mut-group.ensures.value in
    let stamp = ap is_some (sym (stamp_there _ c.args.guid _ _ place group c.args.handle)) ∙ rw (← c.self.view_is) at c.requires.there in
    let bare = record c.index_mut-group.result.now { holders = []; stamps = [] } in
    let goes = only_goes c.index_mut-group.result.now c.args.handle (rw c.holders.ensures.holders at c.if-holders-eq1.true) stamp in
    rw (← c.self.view_is, c.remove.ensures.items, remove_set c.self.inside.groups.items c.args.at c.index_mut-group.result.now)
    (bare_removed c.self.inside.groups.items c.args.guid c.args.at _ bare c.self.invariant.ascending place group refl refl k n
    ∙ stamp_changed _ c.args.guid _ _ bare c.args.handle None place group refl goes k n)

pub returns-else-holders-eq1 : goal.returns-else-holders-eq1
returns-else-holders-eq1 g c =
    let place = rw (← c.self.view_is) at c.requires.place in
    rw (← c.self.view_is)
    (stamp_changed _ c.args.guid _ _ _ c.args.handle None place (got _ _ _ place.0 c.index_mut-group.ensures.value) c.remove-else-holders-eq1.ensures.guid c.remove-else-holders-eq1.ensures.stamps)
