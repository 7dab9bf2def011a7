use Rattle.std.proofs.Common.{ap, arith, refl, sym, ◌∙◌}
use Rattle.std.proofs.lemmas.Result.{IfOk-from_err}
use Rattle.slab.specs.Slab.{Slab}
use Rattle.guid_handles.specs.declared.records.Record.{Record}
use Rattle.guid_handles.proofs.Stored.{live_row, stored_more, stored_same, unstamped}
use Rattle.guid_handles.proofs.Refused.{on_err}
use Rattle.guid_handles.proofs.handles.Handles.install_one.Goals as goal

pub file_key-requires-clause-live : goal.file_key-requires-clause-live
file_key-requires-clause-live g c = live_row _ _ _ _ _ _ c.self.invariant c.args.handle (rw (← c.self.view_is) at c.requires.live)

pub file_key-requires-clause-absent : goal.file_key-requires-clause-absent
file_key-requires-clause-absent g c = unstamped _ _ _ _ _ _ c.self.invariant c.args.handle c.args.guid (rw (← c.self.view_is) at c.requires.absent)

pub invariant_of-self-2 : goal.invariant_of-self-2
invariant_of-self-2 g c =
    let same = ap (λ (s : Slab Record). s.slots) c.make_slot.ensures.rest_kept in
    let key = c.insert_reserved.ensures.key ∙ sym c.vacant_key-key.ensures.value in
    (stored_more _ _ _ _ _ _ c.self.invariant _ _ _ c.args.handle c.args.guid c.args.value _ (rw (← c.self.view_is) at c.requires.live) (rw (← c.self.view_is) at c.requires.absent)
    (rw same at c.vacant_key-key.ensures.vacant) (rw key at c.insert_reserved.ensures.updates.changed) (rw (key, same) at c.insert_reserved.ensures.updates.others)
    c.in_ok-file_key.ensures.rows c.in_ok-file_key.ensures.groups).1

pub returns-clause-ok : goal.returns-clause-ok
returns-clause-ok g c =
    let same = ap (λ (s : Slab Record). s.slots) c.make_slot.ensures.rest_kept in
    let key = c.insert_reserved.ensures.key ∙ sym c.vacant_key-key.ensures.value in
    rw (← c.self.view_is)
    (stored_more _ _ _ _ _ _ c.self.invariant _ _ _ c.args.handle c.args.guid c.args.value _ (rw (← c.self.view_is) at c.requires.live) (rw (← c.self.view_is) at c.requires.absent)
    (rw same at c.vacant_key-key.ensures.vacant) (rw key at c.insert_reserved.ensures.updates.changed) (rw (key, same) at c.insert_reserved.ensures.updates.others)
    c.in_ok-file_key.ensures.rows c.in_ok-file_key.ensures.groups).0

pub returns-clause-below : goal.returns-clause-below
returns-clause-below g c = rw (← c.self.view_is) c.self.invariant.table.below

pub insert_reserved-requires : goal.insert_reserved-requires
insert_reserved-requires g c = c.in_ok-make_slot.ensures.room

pub invariant_of-self : goal.invariant_of-self
invariant_of-self g c = let same = ap (λ (s : Slab Record). s.slots) c.make_slot.ensures.rest_kept in rw same c.self.invariant

pub returns-in_err-make_slot-clause-err : goal.returns-in_err-make_slot-clause-err
returns-in_err-make_slot-clause-err g c = let same = ap (λ (s : Slab Record). s.slots) c.make_slot.ensures.rest_kept in on_err c.from_residual.result _ (rw (← c.self.view_is, same) refl)

pub returns-in_err-file_key-clause-err : goal.returns-in_err-file_key-clause-err
returns-in_err-file_key-clause-err g c = let same = ap (λ (s : Slab Record). s.slots) c.make_slot.ensures.rest_kept in on_err c.from_residual-in_err-file_key.result _ (rw (← c.self.view_is, same, c.in_err-file_key.ensures.rows_stay) refl)

pub invariant_of-self-in_err-file_key : goal.invariant_of-self-in_err-file_key
invariant_of-self-in_err-file_key g c =
    let same = ap (λ (s : Slab Record). s.slots) c.make_slot.ensures.rest_kept in
    rw (c.in_err-file_key.ensures.rows_stay, same) (stored_same _ _ _ _ _ _ c.self.invariant c.file_key.new.groups c.in_err-file_key.ensures.groups_stay)

pub overflow_add-stamp : goal.overflow_add-stamp
overflow_add-stamp g c = omega (arith, rw (← c.self.view_is) at c.requires.stamps)

pub returns-in_err-make_slot-clause-ok : goal.returns-in_err-make_slot-clause-ok
returns-in_err-make_slot-clause-ok g c = IfOk-from_err c.from_residual.result _ c.from_residual.ensures.0

pub returns-in_err-make_slot-clause-below : goal.returns-in_err-make_slot-clause-below
returns-in_err-make_slot-clause-below g c = rw (← c.self.view_is) c.self.invariant.table.below

pub returns-in_err-file_key-clause-ok : goal.returns-in_err-file_key-clause-ok
returns-in_err-file_key-clause-ok g c = IfOk-from_err c.from_residual-in_err-file_key.result _ c.from_residual-in_err-file_key.ensures.0

pub returns-in_err-file_key-clause-below : goal.returns-in_err-file_key-clause-below
returns-in_err-file_key-clause-below g c = rw (← c.self.view_is) c.self.invariant.table.below
