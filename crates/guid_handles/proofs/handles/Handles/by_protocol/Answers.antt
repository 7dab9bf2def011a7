use Rattle.guid_handles.proofs.Stored.{by_guid}
use Rattle.guid_handles.proofs.handles.Handles.by_protocol.Goals as goal

pub returns : goal.returns
returns g c = rw (← c.self.view_is) (by_guid _ _ _ _ _ _ c.self.invariant c.args.guid _ c.holders.ensures.ascending c.holders.ensures.those)
