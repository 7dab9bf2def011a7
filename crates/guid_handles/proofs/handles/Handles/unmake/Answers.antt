use Rattle.std.proofs.Common.{ap, ◌∙◌}
use Rattle.guid_handles.specs.HandleTables.{HandleTable}
use Rattle.guid_handles.proofs.Stored.{unmade}
use Rattle.guid_handles.proofs.handles.Handles.unmake.Goals as goal

pub invariant_of-self : goal.invariant_of-self
invariant_of-self g c =
    unmade _ _ _ _ _ _ c.self.invariant c.args.self.now (c.self.view_is ∙ rw (ap (λ (t : HandleTable). t.last_number) c.remove_bare.view_is) at c.remove_bare-2.ensures) c.requires.lower
