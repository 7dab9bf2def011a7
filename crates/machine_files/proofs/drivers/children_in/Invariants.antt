use Rattle.std.proofs.Common.{◌≡◌, length, map, drop}
use Rattle.serde_json.specs.View.{items_view}
use Rattle.machine_files.specs.Fields.{each_of}
use Rattle.machine_files.specs.DriverText.{child_of}
use Rattle.machine_files.proofs.EachMember.{after}
use Rattle.machine_files.proofs.drivers.children_in.Given as goal

-- what is left to read, and how many were read
abbrev pub invariant-loop-member : goal.invariant-loop-member
invariant-loop-member l = record {
  read : after (map (λ child. child.items) l.children.items) (each_of child_of (items_view (drop l.member-index l.members))) ≡ each_of child_of (items_view l.members);
  count : length l.children.items ≡ l.member-index;
}
