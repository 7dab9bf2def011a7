use Rattle.std.proofs.Common.{sym}
use Rattle.guid_handles.proofs.Stored.{has_stamp, is_recorded, stored_kept, stored_less}
use Rattle.guid_handles.proofs.handles.Handles.take_out.Goals as goal

pub drop_record-requires : goal.drop_record-requires
drop_record-requires g c = record { there = is_recorded _ _ _ _ _ _ c.self.invariant c.args.handle c.args.guid _ (sym c.in-Some.ensures) }

pub remove-requires : goal.remove-requires
remove-requires g c = has_stamp _ _ _ _ _ _ c.self.invariant c.args.handle c.args.guid _ (sym c.in-Some.ensures)

pub invariant_of-self : goal.invariant_of-self
invariant_of-self g c =
    (stored_less _ _ _ _ _ _ c.self.invariant _ _ _ c.args.handle c.args.guid _ (sym c.in-Some.ensures) c.drop_record.ensures.gone c.drop_record.ensures.others
    c.remove_key.ensures c.remove.ensures).1

pub returns-in-Some : goal.returns-in-Some
returns-in-Some g c =
    rw (← c.self.view_is)
    (stored_less _ _ _ _ _ _ c.self.invariant _ _ _ c.args.handle c.args.guid _ (sym c.in-Some.ensures) c.drop_record.ensures.gone c.drop_record.ensures.others
    c.remove_key.ensures c.remove.ensures).0

pub returns-in_default : goal.returns-in_default
returns-in_default g c = rw (← c.self.view_is) (stored_kept _ _ _ _ _ _ c.self.invariant c.args.handle c.args.guid (sym c.in_default.ensures))
