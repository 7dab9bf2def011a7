use Rattle.std.proofs.Common.{◌≡◌, ◌++◌, length}
use Rattle.driver_connect.specs.Pending.{first_last}
use Rattle.driver_connect.proofs.connecting.note_pending.Given as goal

-- what is noted and what is left are all
abbrev pub invariant-loop-handle : goal.invariant-loop-handle
invariant-loop-handle g l = l.pending.items ++ first_last l.levels l.made.items ≡ l.initial.pending.items ++ first_last l.levels l.initial.made.items

abbrev pub decreases-loop-handle : goal.decreases-loop-handle
decreases-loop-handle g l = length l.made.items
