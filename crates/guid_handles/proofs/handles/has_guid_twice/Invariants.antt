use Rattle.std.proofs.Common.{◌≡◌, drop}
use Rattle.guid_handles.specs.HandleChanges.{has_guid_twice}
use Rattle.guid_handles.proofs.handles.has_guid_twice.Given as goal

abbrev pub invariant-loop-k : goal.invariant-loop-k
invariant-loop-k l = has_guid_twice l.pairs ≡ has_guid_twice (drop l.k l.pairs)
