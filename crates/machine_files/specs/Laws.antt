-- The laws of machine files. Each is the contract of a public function.
use Rattle.std.specs.Prelude.{◌≡◌, ℕ, ◌≤◌, List, length, Ok}
use Rattle.std.specs.List.{AllByRecursion}
use Rattle.boot_machines.specs.MachineRuns.{HasRecordNumbers}
use Rattle.boot_machines.specs.Machines.{most_descriptors, most_drivers, IsMachine}
use Rattle.machine_files.specs.MachineText.{ListedMachine, machine_of}

-- What a file lists is a machine of at most `most_descriptors` runs, and their types and attributes
-- fit their fields of a record. It lists at most `most_drivers` drivers.
abbrev pub MachineLaw : Type 0
MachineLaw =
    (bytes : List ℕ)
    (machine : ListedMachine) → machine_of bytes ≡ Ok machine → IsMachine machine.machine
    × AllByRecursion HasRecordNumbers machine.machine.runs
    × (length machine.machine.runs ≤ most_descriptors) × (length machine.drivers ≤ most_drivers)
