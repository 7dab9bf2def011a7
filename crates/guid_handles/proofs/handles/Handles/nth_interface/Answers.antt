use Rattle.std.proofs.Common.{ap, ◌∙◌}
use Rattle.std.specs.Option.{option_and_then}
use Rattle.guid_handles.specs.Slots.{at_key}
use Rattle.guid_handles.proofs.Filed.{have_nth}
use Rattle.guid_handles.proofs.Stored.{carried_at}
use Rattle.guid_handles.proofs.handles.Handles.nth_interface.Goals as goal

pub returns-in-Some : goal.returns-in-Some
returns-in-Some g c =
    rw (← c.self.view_is)
    (c.interface_at.ensures ∙ ap (option_and_then (at_key c.self.inside.records.slots)) (rw c.keys.ensures at c.in-Some.ensures)
    ∙ have_nth _ _ _ c.args.at (carried_at _ _ _ _ _ _ c.self.invariant c.args.handle))

pub returns-in-None : goal.returns-in-None
returns-in-None g c =
    rw (← c.self.view_is)
    (ap (option_and_then (at_key c.self.inside.records.slots)) (rw c.keys.ensures at c.in-None.ensures)
    ∙ have_nth _ _ _ c.args.at (carried_at _ _ _ _ _ _ c.self.invariant c.args.handle))
