use Rattle.std.proofs.Common.{◌≡◌, drop}
use Rattle.std.specs.List.{find}
use Rattle.guid_handles.specs.Slots.{is_key_of}
use Rattle.guid_handles.proofs.searches.find_key.Given as goal

abbrev pub invariant-loop-key : goal.invariant-loop-key
invariant-loop-key g l = find (is_key_of l.records.slots l.guid) l.keys ≡ find (is_key_of l.records.slots l.guid) (drop l.key-index l.keys)
