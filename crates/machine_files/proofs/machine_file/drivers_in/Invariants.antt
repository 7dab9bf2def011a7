use Rattle.std.proofs.Common.{◌≡◌, map, drop}
use Rattle.serde_json.specs.View.{items_view}
use Rattle.machine_files.specs.DriverText.{listed, drivers_from}
use Rattle.machine_files.proofs.EachMember.{with_front}
use Rattle.machine_files.proofs.machine_file.drivers_in.Given as goal

abbrev pub invariant-loop-number : goal.invariant-loop-number
invariant-loop-number l = with_front (map listed l.drivers.items) (drivers_from l.number (items_view (drop l.number l.members))) ≡ drivers_from 0 (items_view l.members)
