use Rattle.guid_handles.proofs.Filed.{have_long}
use Rattle.guid_handles.proofs.Stored.{carried_at}
use Rattle.guid_handles.proofs.handles.Handles.interface_count.Goals as goal

pub returns : goal.returns
returns g c = rw (← c.self.view_is, c.keys.ensures) (have_long _ _ _ (carried_at _ _ _ _ _ _ c.self.invariant c.args.handle))
