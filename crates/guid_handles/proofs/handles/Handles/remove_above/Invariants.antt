use Rattle.std.proofs.Common.{◌≡◌, length}
use Rattle.guid_handles.specs.TableSteps.{without_above}
use Rattle.guid_handles.proofs.handles.Handles.remove_above.Given as goal

abbrev pub invariant-loop-last : goal.invariant-loop-last
invariant-loop-last g l = without_above l.number l.self ≡ without_above l.number l.fn.self

abbrev pub decreases-loop-last : goal.decreases-loop-last
decreases-loop-last g l = length l.self.handles
