-- What the program does on the bytes that it is given.
use Rattle.std.specs.Prelude.{◌≡◌, ◌⊎◌, ℕ, ◌<◌, Bool, List, [], ◌++◌, length, map, codes, Option, IfSome, Result, Ok, Err, true, false}
use Rattle.std.specs.Io.KnownBytes.{Appends}
use Rattle.std.specs.declared.alloc.Global.{Global}
use Rattle.certificate_blocks.specs.declared.faults.BlockFault.{BlockFault}
use Rattle.certificate_blocks.specs.BlockChecks.{Judges, Writes}
use Rattle.text_lines.specs.Printed.{WritesFront, line_feed}
use Rattle.boot_core.specs.Machines.{State, prepared_placements, prepared_state}
use Rattle.machine_files.specs.declared.faults.MachineFault.TheVariants as machine_fault
use Rattle.trace_lines.specs.declared.run_faults.RunFault.{RunFault}
use Rattle.machine_files.specs.DriverText.{listed_meaning}
use Rattle.machine_files.specs.MachineText.{ListedMachine, longest_file, machine_of}
use Rattle.boot_trace.specs.TraceRuns.{Ends}
use Rattle.program_runs.specs.declared.serve.Fault.{Fault}
use Rattle.program_runs.specs.declared.serve.Fault.TheVariants as fault

-- the bytes are all of the file, or a front of it that is itself too long for a machine file
abbrev pub IsRead : List ℕ → List ℕ → Type 0
IsRead file bytes =
    (rest : List ℕ) × (file ≡ bytes ++ rest) × ((rest ≡ []) ⊎ (longest_file < length bytes))

-- The file is a machine's, and the run of a trace of known bytes on that machine, with its drivers,
-- ends so. The core returns certificates where they are asked for.
abbrev pub RunsTrace : Bool → List ℕ → Option (List ℕ) → Option (List ℕ) → Option (List ℕ)
    → Result (Unit {0}) RunFault → Type 0
RunsTrace certify file trace before after end =
    (machine : ListedMachine) × (machine_of file ≡ Ok machine)
    × IfSome trace
    (λ bytes. (new : State)
    × Ends Global (map listed_meaning machine.drivers) certify bytes
    (prepared_state prepared_placements certify machine.machine) new before after end)

-- How the program ends on a machine file and a trace, and what it wrote. It runs the trace on the
-- machine; where there is a fault before that, nothing is written. No such run ends on a trace that
-- was not opened, or on a block.
abbrev pub RunsFiles : Bool → List ℕ → Option (List ℕ) → Option (List ℕ) → Option (List ℕ)
    → Result (Unit {0}) Fault → Type 0
RunsFiles certify file trace before after (Ok done) =
    RunsTrace certify file trace before after (Ok done)
RunsFiles certify file trace before after (Err (fault.Run e)) =
    RunsTrace certify file trace before after (Err e)
RunsFiles certify file trace before after (Err (fault.Machine e)) =
    ((e ≡ machine_fault.OutOfMemory) ⊎ (machine_of file ≡ Err e)) × (after ≡ before)
RunsFiles certify file trace before after (Err fault.CannotReadMachine) = after ≡ before
RunsFiles certify file trace before after (Err fault.OutOfMemory) = after ≡ before
RunsFiles certify file trace before after (Err fault.CannotReadTrace) = ⊥
RunsFiles certify file trace before after (Err (fault.Block e)) = ⊥

-- 0 where there was no fault, 1 where there was one
abbrev pub status_of : {A E : Type 0} → Result A E → ℕ
status_of (Ok x) = 0
status_of (Err e) = 1

-- 0 where the block was accepted, 3 where it was refused, 1 where there was a fault
abbrev pub check_status : {E : Type 0} → Result Bool E → ℕ
check_status (Ok true) = 0
check_status (Ok false) = 3
check_status (Err e) = 1

-- a run of a machine file and a trace ends, with this status
abbrev pub ServesFiles : Bool → List ℕ → Option (List ℕ) → Option (List ℕ) → Option (List ℕ) → ℕ
    → Type 0
ServesFiles certify file trace before after status =
    (end : Result (Unit {0}) Fault) × (status ≡ status_of end)
    × RunsFiles certify file trace before after end

-- the input is judged as a certificate block, with this status
abbrev pub ChecksBlock : Option (List ℕ) → Option (List ℕ) → Option (List ℕ) → ℕ → Type 0
ChecksBlock input before after status =
    (end : Result Bool BlockFault) × (status ≡ check_status end) × Writes before after end
    × IfSome input (λ bytes. Judges true bytes before after end)

-- the status of a command line that is refused
abbrev pub usage_status : ℕ
usage_status = 2

-- the status of a fault of input or output
abbrev pub fault_status : ℕ
fault_status = 1

-- the line with the program's name and version
abbrev pub version_line : List ℕ
version_line = codes "bootcore 0.1.0" ++ line_feed

-- The line with the version is written, or a front of it where there was a fault.
abbrev pub PrintsVersion : Option (List ℕ) → Option (List ℕ) → ℕ → Type 0
PrintsVersion before after status =
    ((status ≡ 0) × Appends before after version_line)
    ⊎ ((status ≡ fault_status) × WritesFront before version_line after)
