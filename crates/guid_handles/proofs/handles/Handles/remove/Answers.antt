use Rattle.std.proofs.Common.{ap, not, refl, sym, ◌∙◌}
use Rattle.guid_handles.proofs.Stored.{still_on, stored_last}
use Rattle.guid_handles.proofs.handles.Handles.remove.Goals as goal

pub invariant_of-self : goal.invariant_of-self
invariant_of-self g c = rw c.remove-2.ensures (stored_last _ _ _ _ _ _ _ _ c.args.handle c.args.guid c.in-Some.key c.self.invariant c.in-Some.ensures.there (rw (← c.self.view_is) at c.requires) c.drop_record.ensures.gone c.drop_record.ensures.others c.remove.ensures).1

pub returns-clause-table : goal.returns-clause-table
returns-clause-table g c =
    rw (← c.self.view_is, c.remove-2.ensures)
    (stored_last _ _ _ _ _ _ _ _ c.args.handle c.args.guid c.in-Some.key c.self.invariant c.in-Some.ensures.there (rw (← c.self.view_is) at c.requires) c.drop_record.ensures.gone c.drop_record.ensures.others c.remove.ensures).0

pub returns-clause-gone : goal.returns-clause-gone
returns-clause-gone g c =
    rw c.remove-2.ensures
    (sym (ap not (stored_last _ _ _ _ _ _ _ _ c.args.handle c.args.guid c.in-Some.key c.self.invariant c.in-Some.ensures.there (rw (← c.self.view_is) at c.requires) c.drop_record.ensures.gone c.drop_record.ensures.others c.remove.ensures).2))

pub returns-in_default-clause-table : goal.returns-in_default-clause-table
returns-in_default-clause-table g c =
    let left = still_on _ _ _ _ _ _ c.self.invariant c.args.handle c.args.guid c.in_default.ensures.none (rw (← c.self.view_is) at c.requires) in
    c.take_out.ensures ∙ rw (← c.self.view_is, left.0) refl

pub returns-in_default-clause-gone : goal.returns-in_default-clause-gone
returns-in_default-clause-gone g c =
    let left = still_on _ _ _ _ _ _ c.self.invariant c.args.handle c.args.guid c.in_default.ensures.none (rw (← c.self.view_is) at c.requires) in
    rw (c.take_out.ensures, ← c.self.view_is) (sym (ap not left.1))
