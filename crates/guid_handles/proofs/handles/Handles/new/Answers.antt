use Rattle.guid_handles.proofs.Stored.{empty_store}
use Rattle.guid_handles.proofs.handles.Handles.new.Goals as goal

pub invariant_of-result : goal.invariant_of-result
invariant_of-result g c = rw (c.new.ensures, c.new-2.ensures.empty, c.new-3.ensures) empty_store
