use Rattle.std.proofs.Common.{refl}
use Rattle.guid_handles.proofs.Beside.{beside_insert, insert_beside}
use Rattle.guid_handles.proofs.Refused.{on_err}
use Rattle.std.proofs.lemmas.Result.{IfOk-from_err}
use Rattle.guid_handles.proofs.guid_group.GuidGroup.add.Goals as goal

pub invariant_of-self-2 : goal.invariant_of-self-2
invariant_of-self-2 g c =
    rw (c.insert_with_room-2.ensures, c.insert_with_room.ensures, c.make_short_room.ensures.items, c.make_short_room-2.ensures.items)
    (insert_beside _ _ _ c.args.handle c.args.stamp c.self.invariant (rw (← c.self.view_is) at c.requires) (rw c.as_slice.ensures.value at c.count_less_than_new-at.ensures.place))

pub returns-clause-ok : goal.returns-clause-ok
returns-clause-ok g c = λ n.
    rw (← c.self.view_is, c.insert_with_room-2.ensures, c.insert_with_room.ensures, c.make_short_room.ensures.items, c.make_short_room-2.ensures.items)
    (beside_insert _ _ _ c.args.handle c.args.stamp n c.self.invariant.even (rw (← c.self.view_is) at c.requires))

pub insert_with_room-requires-clause-room : goal.insert_with_room-requires-clause-room
insert_with_room-requires-clause-room g c = c.in_ok-make_short_room-2.ensures.room

pub insert_with_room-requires-2-clause-room : goal.insert_with_room-requires-2-clause-room
insert_with_room-requires-2-clause-room g c = c.in_ok-make_short_room.ensures.room

pub invariant_of-self : goal.invariant_of-self
invariant_of-self g c = rw c.make_short_room.ensures.items c.self.invariant

pub invariant_of-self-in_err-make_short_room-2 : goal.invariant_of-self-in_err-make_short_room-2
invariant_of-self-in_err-make_short_room-2 g c = rw (c.make_short_room.ensures.items, c.make_short_room-2.ensures.items) c.self.invariant

pub returns-in_err-make_short_room-clause-err : goal.returns-in_err-make_short_room-clause-err
returns-in_err-make_short_room-clause-err g c = on_err c.from_residual.result _ (rw (← c.self.view_is, c.make_short_room.ensures.items) refl)

pub returns-in_err-make_short_room-2-clause-err : goal.returns-in_err-make_short_room-2-clause-err
returns-in_err-make_short_room-2-clause-err g c = on_err c.from_residual-in_err-make_short_room-2.result _ (rw (← c.self.view_is, c.make_short_room.ensures.items, c.make_short_room-2.ensures.items) refl)

pub returns-clause-guid : goal.returns-clause-guid
returns-clause-guid g c = rw (← c.self.view_is) refl

pub count_less_than_new-at-requires : goal.count_less_than_new-at-requires
count_less_than_new-at-requires g c = rw c.as_slice.ensures.value c.self.invariant.ascending

pub returns-in_err-make_short_room-clause-guid : goal.returns-in_err-make_short_room-clause-guid
returns-in_err-make_short_room-clause-guid g c = rw (← c.self.view_is) refl

pub returns-in_err-make_short_room-clause-ok : goal.returns-in_err-make_short_room-clause-ok
returns-in_err-make_short_room-clause-ok g c = IfOk-from_err c.from_residual.result _ c.from_residual.ensures.0

pub returns-in_err-make_short_room-2-clause-guid : goal.returns-in_err-make_short_room-2-clause-guid
returns-in_err-make_short_room-2-clause-guid g c = rw (← c.self.view_is) refl

pub returns-in_err-make_short_room-2-clause-ok : goal.returns-in_err-make_short_room-2-clause-ok
returns-in_err-make_short_room-2-clause-ok g c = IfOk-from_err c.from_residual-in_err-make_short_room-2.result _ c.from_residual-in_err-make_short_room-2.ensures.0
