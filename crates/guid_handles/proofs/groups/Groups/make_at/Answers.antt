use Rattle.std.proofs.Common.{◌≡◌, ap, refl, ◌∙◌, Some}
use Rattle.std.proofs.lemmas.Bool.{eq-eqb}
use Rattle.guid_handles.specs.Indexes.{Group, stamp_in}
use Rattle.guid_handles.proofs.Grouped.{groups_insert, held_by, stamp_insert}
use Rattle.guid_handles.proofs.Refused.{on_err}
use Rattle.guid_handles.proofs.groups.Groups.make_at.Goals as goal

pub add-requires : goal.add-requires
add-requires g c = rw c.new-group.ensures refl

pub invariant_of-self-2 : goal.invariant_of-self-2
invariant_of-self-2 g c =
    let own = c.add.ensures.guid ∙ ap (λ (x : Group). x.guid) c.new-group.ensures in
    let there : stamp_in c.add.new.self c.args.handle ≡ Some c.args.stamp = c.in_ok-add.ensures.ok c.args.handle ∙ rw (eq-eqb c.args.handle c.args.handle refl) refl in
    rw c.in_ok-insert.ensures.items
    (groups_insert _ _ c.args.guid _ own c.self.invariant (rw (← c.self.view_is) at c.requires.none) (rw (← c.self.view_is) at c.requires.place) (held_by c.add.new.self c.args.handle c.args.stamp there))

pub returns-clause-ok : goal.returns-clause-ok
returns-clause-ok g c =
    let own = c.add.ensures.guid ∙ ap (λ (x : Group). x.guid) c.new-group.ensures in
    let stamps = rw c.new-group.ensures at c.in_ok-add.ensures.ok in
    rw (← c.self.view_is, c.in_ok-insert.ensures.items)
    (stamp_insert _ _ c.args.guid _ c.args.handle c.args.stamp own (rw (← c.self.view_is) at c.requires.none) stamps)

pub insert-requires : goal.insert-requires
insert-requires g c = let bound = rw (← c.self.view_is) at c.requires.bound in rw c.self.inside.groups.ok.0 bound

pub invariant_of-self : goal.invariant_of-self
invariant_of-self g c = rw c.in_err-insert.ensures.items c.self.invariant

pub returns-in_err-add-clause-err : goal.returns-in_err-add-clause-err
returns-in_err-add-clause-err g c = on_err c.from_residual.result _ refl

pub returns-in_err-insert-clause-err : goal.returns-in_err-insert-clause-err
returns-in_err-insert-clause-err g c = on_err c.from_residual-in_err-insert.result _ (rw (← c.self.view_is) c.in_err-insert.ensures.items)
