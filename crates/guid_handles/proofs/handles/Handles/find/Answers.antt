use Rattle.std.proofs.Common.{sym, ap, ◌∙◌}
use Rattle.std.specs.Option.{option_and_then}
use Rattle.guid_handles.specs.Slots.{at_key}
use Rattle.guid_handles.proofs.Stored.{stored_at}
use Rattle.guid_handles.proofs.handles.Handles.find.Goals as goal

pub returns-in-Some : goal.returns-in-Some
returns-in-Some g c =
    rw (← c.self.view_is)
    (c.interface_at.ensures ∙ ap (option_and_then (at_key c.self.inside.records.slots)) c.in-Some.ensures ∙ sym (stored_at _ _ _ _ _ _ c.self.invariant c.args.handle c.args.guid))

pub returns-in-None : goal.returns-in-None
returns-in-None g c =
    rw (← c.self.view_is)
    (ap (option_and_then (at_key c.self.inside.records.slots)) c.in-None.ensures ∙ sym (stored_at _ _ _ _ _ _ c.self.invariant c.args.handle c.args.guid))
