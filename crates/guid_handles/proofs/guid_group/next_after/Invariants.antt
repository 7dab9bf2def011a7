use Rattle.std.proofs.Common.{◌≡◌, drop}
use Rattle.guid_handles.specs.Indexes.{least_after}
use Rattle.guid_handles.proofs.guid_group.next_after.Given as goal

abbrev pub invariant-loop-at : goal.invariant-loop-at
invariant-loop-at l = l.best ≡ least_after l.mark (drop l.at l.holders) (drop l.at l.stamps)
