use Rattle.std.proofs.Common.{◌≡◌, drop}
use Rattle.device_path_locate.specs.Boundaries.{last_within}
use Rattle.device_path_locate.proofs.marks.last_mark.Given as goal

-- the marks that are left lead to the same
abbrev pub invariant-loop-mark : goal.invariant-loop-mark
invariant-loop-mark l = last_within (drop l.mark-index l.marks) l.last l.size ≡ last_within l.marks l.from l.size
