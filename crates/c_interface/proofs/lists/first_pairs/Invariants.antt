use Rattle.std.proofs.Common.{◌≡◌, length, map, take}
use Rattle.c_machines.specs.Guids.{interface_in}
use Rattle.c_interface.proofs.lists.first_pairs.Given as goal

-- the interfaces before this place, and how many they are
abbrev pub invariant-loop-interface : goal.invariant-loop-interface
invariant-loop-interface l = record {
  seen : l.pairs.items ≡ map interface_in (take l.interface-index l.interface-items);
  count : length l.pairs.items ≡ l.interface-index;
}
