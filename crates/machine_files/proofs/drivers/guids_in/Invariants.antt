use Rattle.std.proofs.Common.{◌≡◌, length, drop}
use Rattle.serde_json.specs.View.{items_view}
use Rattle.machine_files.specs.Fields.{each_of}
use Rattle.machine_files.specs.DriverText.{guid_of}
use Rattle.machine_files.proofs.EachMember.{after}
use Rattle.machine_files.proofs.drivers.guids_in.Given as goal

-- what is left to read, and how many were read
abbrev pub invariant-loop-member : goal.invariant-loop-member
invariant-loop-member l = record {
  read : after (l.guids.items) (each_of guid_of (items_view (drop l.member-index l.members))) ≡ each_of guid_of (items_view l.members);
  count : length l.guids.items ≡ l.member-index;
}
