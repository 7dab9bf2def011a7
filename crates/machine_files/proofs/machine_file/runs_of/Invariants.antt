use Rattle.std.proofs.Common.{◌≡◌, drop}
use Rattle.serde_json.specs.View.{items_view}
use Rattle.machine_files.specs.MachineText.{runs_from}
use Rattle.machine_files.proofs.EachMember.{with_front}
use Rattle.machine_files.proofs.machine_file.runs_of.Given as goal

abbrev pub invariant-loop-number : goal.invariant-loop-number
invariant-loop-number l = with_front l.runs.items (runs_from l.number (items_view (drop l.number l.members))) ≡ runs_from 0 (items_view l.members)
