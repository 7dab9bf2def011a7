use Rattle.std.proofs.Common.{◌≡◌, length, map, drop}
use Rattle.c_machines.specs.DriverTables.{child_in, fits_child}
use Rattle.c_machines.proofs.Elements.{AreLeft}
use Rattle.c_machines.proofs.drivers.children_in.Given as goal

-- the children from this place on are left, and how many were read
abbrev pub invariant-loop-child : goal.invariant-loop-child
invariant-loop-child l = record {
  left : AreLeft child_in fits_child l.child-items (map (λ child. child.items) l.list.items) (drop l.child-index l.child-items);
  count : length l.list.items ≡ l.child-index;
}
