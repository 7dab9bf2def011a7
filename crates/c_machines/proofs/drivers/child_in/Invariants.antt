use Rattle.std.proofs.Common.{◌≡◌, length, map, take}
use Rattle.c_machines.specs.Guids.{interface_in}
use Rattle.c_machines.proofs.drivers.child_in.Given as goal

-- the elements before this place, and how many they are
abbrev pub invariant-loop-interface : goal.invariant-loop-interface
invariant-loop-interface l = record {
  seen : l.list.items ≡ map interface_in (take l.interface-index l.interface-items);
  count : length l.list.items ≡ l.interface-index;
}
