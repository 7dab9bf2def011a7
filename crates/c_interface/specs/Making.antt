-- What a core is made of that a caller in C asks for.
use Rattle.std.specs.Prelude.{◌≡◌, ◌⊎◌, ℕ, true, false, List, map, Some, Result, Ok, Err}
use Rattle.page_ranges.specs.Statuses.{status_number}
use Rattle.page_ranges.specs.declared.statuses.Status.TheVariants.{InvalidParameter, OutOfResources}
use Rattle.raw_pool.specs.declared.pages.numbered.PoolMemory.{PoolMemory}
use Rattle.boot_machines.specs.Machines.{MachineValue, IsMachine}
use Rattle.boot_core.specs.Machines.{first_state_with, leaving, most_calls}
use Rattle.c_machines.specs.declared.drivers.DriverTable.{DriverTable}
use Rattle.c_machines.specs.declared.faults.MachineFault.{MachineFault}
use Rattle.c_machines.specs.declared.faults.MachineFault.TheVariants.{Invalid, OutOfMemory}
use Rattle.c_machines.specs.DriverTables.{are_tables, driver_in, returned}
use Rattle.c_machines.specs.MachineRecords.{IsReturned}
use Rattle.c_interface.specs.declared.efi_core.LastBlock.TheVariants as block
use Rattle.c_interface.specs.EfiCores.{EfiCoreValue}
use Rattle.c_interface.specs.LastCalls.{nothing_left}

-- the status that a fault is returned as
abbrev pub fault_status : MachineFault → ℕ
fault_status Invalid = status_number InvalidParameter
fault_status OutOfMemory = status_number OutOfResources

-- The core is that of the machine that the records describe, with the drivers of the tables, before
-- any call, and with the most calls that a core can be left. It keeps neither replies nor certificates.
pub record IsMadeCore {A : Type 0} (size : ℕ) (records : List ℕ) (granule : ℕ)
    (tables : List DriverTable) (c : EfiCoreValue A) : Type 0 where
  pub machine : MachineValue
  pub is_returned : IsReturned size records granule machine
  pub state : c.core.state ≡ leaving most_calls (first_state_with false machine)
  pub are_tables : are_tables tables ≡ true
  pub drivers : map returned c.core.given.drivers ≡ map driver_in tables
  pub certifies : c.certifies ≡ false
  pub keeps_replies : c.keeps_replies ≡ false
  pub last : c.last ≡ nothing_left
  pub block : c.block ≡ block.Nothing

-- The pool of a core lies in memory whose pages are those of the machine from one on.
abbrev pub LiesFrom : {A : Type 0} → ℕ → EfiCoreValue A → Type 0
LiesFrom first c =
    (memory : PoolMemory) × (c.core.given.memory ≡ Some memory) × (memory.first ≡ first)

-- What is made: the core that the records and tables describe. INVALID_PARAMETER says that the
-- records describe no machine, or that the tables are none of drivers; else memory ran out, which
-- it may only where the tables are those of drivers.
abbrev pub MakesCore : {A : Type 0} → ℕ → List ℕ → ℕ → List DriverTable → Result (EfiCoreValue A) ℕ
    → Type 0
MakesCore size records granule tables (Ok c) = IsMadeCore size records granule tables c
MakesCore size records granule tables (Err status) =
    ((status ≡ status_number InvalidParameter)
    × (((m : MachineValue) → IsMachine m → ¬ IsReturned size records granule m)
    ⊎ (are_tables tables ≡ false)))
    ⊎ ((status ≡ status_number OutOfResources) × (are_tables tables ≡ true))
