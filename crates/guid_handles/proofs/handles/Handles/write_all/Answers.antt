use Rattle.std.proofs.Common.{refl}
use Rattle.guid_handles.proofs.Stored.{carried_these}
use Rattle.guid_handles.proofs.handles.Handles.write_all.Goals as goal

pub returns-clause-count : goal.returns-clause-count
returns-clause-count g c = rw (← c.self.view_is, c.write_guids.ensures.count, c.keys.ensures, carried_these _ _ _ _ _ _ c.self.invariant c.args.handle) refl

pub returns-clause-written : goal.returns-clause-written
returns-clause-written g c = rw (← c.self.view_is, c.write_guids.ensures.written, c.keys.ensures, carried_these _ _ _ _ _ _ c.self.invariant c.args.handle) refl
