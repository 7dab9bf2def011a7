use Rattle.std.proofs.Common.{◌≡◌, ◌+◌, ◌≤◌, true, map, drop, length}
use Rattle.std.specs.List.{list_all}
use Rattle.guid_handles.specs.HandleChanges.{max_handles}
use Rattle.driver_connect.specs.GoingOn.{HasMade}
use Rattle.driver_connect.specs.Room.{HasRoom, Grows}
use Rattle.driver_connect.specs.Starting.{is_child, with_children}
use Rattle.driver_connect.proofs.progress.make_children.Given as goal

abbrev pub invariant-loop-child : goal.invariant-loop-child
invariant-loop-child g l = record {
  handles : with_children l.maker (map (λ c. c.items) (drop l.child-index l.children)) l.handles
      ≡ with_children l.maker (map (λ c. c.items) l.children) l.fn.handles;
  grows : Grows l.fn.handles l.handles;
  room : HasRoom l.handles;
  children : list_all is_child (map (λ c. c.items) (drop l.child-index l.children)) ≡ true;
  made : HasMade l.fn.handles l.handles;
  places : length l.handles.handles + length (drop l.child-index l.children) ≤ max_handles;
}
