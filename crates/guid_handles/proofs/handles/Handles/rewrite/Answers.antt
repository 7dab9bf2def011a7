use Rattle.std.proofs.Common.{sym}
use Rattle.guid_handles.proofs.Stored.{has_stamp, is_recorded, stored_rewritten, uncarried}
use Rattle.guid_handles.proofs.handles.Handles.rewrite.Goals as goal

pub restamp-requires : goal.restamp-requires
restamp-requires g c = record { there = is_recorded _ _ _ _ _ _ c.self.invariant c.args.handle c.args.guid _ (sym c.in-Some.ensures) }

pub restamp-requires-in-Some : goal.restamp-requires-in-Some
restamp-requires-in-Some g c = has_stamp _ _ _ _ _ _ c.self.invariant c.args.handle c.args.guid _ (sym c.in-Some.ensures)

pub invariant_of-self : goal.invariant_of-self
invariant_of-self g c =
    (stored_rewritten _ _ _ _ _ _ c.self.invariant _ _ c.args.handle c.args.guid c.args.value c.args.stamp c.args.last _ (rw (← c.self.view_is) at c.requires.table)
    (sym c.in-Some.ensures) c.restamp.ensures.changed c.restamp.ensures.others c.restamp-in-Some.ensures).1

pub returns-in-Some : goal.returns-in-Some
returns-in-Some g c =
    rw (← c.self.view_is)
    (stored_rewritten _ _ _ _ _ _ c.self.invariant _ _ c.args.handle c.args.guid c.args.value c.args.stamp c.args.last _ (rw (← c.self.view_is) at c.requires.table)
    (sym c.in-Some.ensures) c.restamp.ensures.changed c.restamp.ensures.others c.restamp-in-Some.ensures).0

pub returns-in_default : goal.returns-in_default
returns-in_default g c = absurd (uncarried _ _ _ _ _ _ c.self.invariant c.args.handle c.args.guid (sym c.in_default.ensures) (rw (← c.self.view_is) at c.requires.there))
