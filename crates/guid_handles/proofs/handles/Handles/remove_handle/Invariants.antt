use Rattle.std.proofs.Common.{◌≡◌, length}
use Rattle.guid_handles.specs.HandleTables.{interfaces_on}
use Rattle.guid_handles.specs.HandleChanges.{without_handle}
use Rattle.guid_handles.proofs.handles.Handles.remove_handle.Given as goal

abbrev pub invariant-loop-self : goal.invariant-loop-self
invariant-loop-self g l = without_handle l.handle l.self ≡ without_handle l.handle l.fn.self

abbrev pub decreases-loop-self : goal.decreases-loop-self
decreases-loop-self g l = length (interfaces_on l.self l.handle)
