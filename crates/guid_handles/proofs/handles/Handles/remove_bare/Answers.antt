use Rattle.guid_handles.proofs.Stored.{stored_bare}
use Rattle.guid_handles.proofs.handles.Handles.remove_bare.Goals as goal

pub invariant_of-self : goal.invariant_of-self
invariant_of-self g c = rw c.remove.ensures (stored_bare _ _ _ _ _ _ c.self.invariant c.args.handle (rw (← c.self.view_is) at c.requires)).1

pub returns : goal.returns
returns g c = rw (← c.self.view_is, c.remove.ensures) (stored_bare _ _ _ _ _ _ c.self.invariant c.args.handle (rw (← c.self.view_is) at c.requires)).0
