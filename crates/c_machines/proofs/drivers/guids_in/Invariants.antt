use Rattle.std.proofs.Common.{◌≡◌, length, map, take}
use Rattle.c_machines.specs.Guids.{guid_in}
use Rattle.c_machines.proofs.drivers.guids_in.Given as goal

-- the elements before this place, and how many they are
abbrev pub invariant-loop-guid : goal.invariant-loop-guid
invariant-loop-guid l = record {
  seen : l.list.items ≡ map guid_in (take l.guid-index l.guid-items);
  count : length l.list.items ≡ l.guid-index;
}
