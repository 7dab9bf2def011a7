use Rattle.std.proofs.Common.{◌≡◌, ◌≤◌, map, take, length}
use Rattle.guid_handles.specs.HandleTables.{written_over}
use Rattle.guid_handles.specs.Slots.{at_keys}
use Rattle.guid_handles.proofs.searches.write_guids.Given as goal

abbrev pub invariant-loop-at : goal.invariant-loop-at
invariant-loop-at g l = record {
  count : l.count ≡ length (map (λ i. i.guid) (at_keys l.records.slots (take l.at l.keys)));
  bound : l.count ≤ l.at;
  written : l.out ≡ written_over (map (λ i. i.guid) (at_keys l.records.slots (take l.at l.keys))) l.fn.out;
}
