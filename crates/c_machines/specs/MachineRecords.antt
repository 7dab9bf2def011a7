-- What the records of a machine mean.
use Rattle.std.specs.Prelude.{◌≡◌, ℕ, ◌/◌, ◌%◌, Bool, true, false, ◌&&◌, ◌==◌, nat_le, List, length, map, drop, Result, Ok, Err, IsPermutation}
use Rattle.std.specs.List.{list_all}
use Rattle.std.specs.List.Sorted.{IsNonDecreasingBy}
use Rattle.std.specs.Simd.{first_chunks}
use Rattle.std.specs.declared.vec.Vec.{Vec}
use Rattle.byteorder.specs.Endian.{little_number}
use Rattle.page_ranges.specs.declared.ranges.Owner.TheVariants.{Given}
use Rattle.page_ranges.specs.declared.ranges.Run.{Run}
use Rattle.page_ranges.specs.MemoryTypes.{page_size}
use Rattle.boot_machines.specs.Machines.{most_descriptors, MachineValue, IsMachine}
use Rattle.c_machines.specs.declared.faults.MachineFault.{MachineFault}
use Rattle.c_machines.specs.declared.faults.MachineFault.TheVariants.{Invalid, OutOfMemory}

-- ---- a record: Type, PhysicalStart, VirtualStart, which says nothing here, NumberOfPages and Attribute, and what follows them

-- the fewest bytes of a record
abbrev pub least_size : ℕ
least_size = 40

-- the number that bytes at an offset are, the lowest byte first
abbrev pub number_at : ℕ → ℕ → List ℕ → ℕ
number_at at n bytes = little_number n (drop at bytes)

-- the PhysicalStart of a record
abbrev pub start_in : List ℕ → ℕ
start_in bytes = number_at 8 8 bytes

-- a page begins at the start
abbrev pub is_aligned : List ℕ → Bool
is_aligned bytes = start_in bytes % page_size == 0

-- the run that a record describes, the machine's own
abbrev pub run_in : List ℕ → Run
run_in bytes =
    record {
      range = record { first = start_in bytes / page_size; pages = number_at 24 8 bytes };
      mtype = number_at 0 4 bytes;
      attributes = number_at 32 8 bytes;
      owner = Given;
    }

-- ---- records of one size, one behind the other

-- the records in some bytes
abbrev pub records_in : ℕ → List ℕ → List (List ℕ)
records_in size bytes = first_chunks size (length bytes / size) bytes

-- The bytes are a whole number of records of that size, which is none too small, there are no more
-- than the limit, and each starts where a page begins.
abbrev pub are_records : ℕ → List ℕ → Bool
are_records size bytes =
    nat_le least_size size && (length bytes % size == 0)
    && nat_le (length bytes / size) most_descriptors && list_all is_aligned (records_in size bytes)

-- the runs that records describe, in their order
abbrev pub runs_in : ℕ → List ℕ → List Run
runs_in size bytes = map run_in (records_in size bytes)

-- What is read of bytes: the runs that they describe. Where they are no records, Invalid or out of
-- memory.
abbrev pub ReadsRuns : {A : Type 0} → ℕ → List ℕ → Result (Vec Run A) MachineFault → Type 0
ReadsRuns size bytes (Ok runs) = (are_records size bytes ≡ true) × (runs.items ≡ runs_in size bytes)
ReadsRuns size bytes (Err Invalid) = are_records size bytes ≡ false
ReadsRuns size bytes (Err OutOfMemory) = Unit {0}

-- ---- the machine

-- The machine has the runs that the records describe, by ascending page, and the granule.
pub record IsReturned (size : ℕ) (bytes : List ℕ) (g : ℕ) (m : MachineValue) : Type 0 where
  pub records : are_records size bytes ≡ true
  pub runs : IsPermutation (runs_in size bytes) m.runs
  pub order : IsNonDecreasingBy (λ (r : Run). r.range.first) m.runs
  pub granule : m.granule ≡ g

-- What is made of bytes: the machine that they describe. Where they describe none, Invalid or out
-- of memory.
abbrev pub MakesMachine : ℕ → List ℕ → ℕ → Result MachineValue MachineFault → Type 0
MakesMachine size bytes granule (Ok m) = IsReturned size bytes granule m
MakesMachine size bytes granule (Err Invalid) =
    (m : MachineValue) → IsMachine m → ¬ IsReturned size bytes granule m
MakesMachine size bytes granule (Err OutOfMemory) = Unit {0}
