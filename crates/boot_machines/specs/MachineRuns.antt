-- The runs that a machine may have.
use Rattle.std.specs.Prelude.{◌≡◌, ◌+◌, ◌^◌, ◌<◌, ◌≤◌, true, false}
use Rattle.page_ranges.specs.declared.ranges.Owner.TheVariants.{Given}
use Rattle.page_ranges.specs.declared.ranges.Run.{Run}
use Rattle.page_ranges.specs.MemoryTypes.{page_count, conventional, has_runtime, is_machine_type}

-- a nonempty run of pages that exist, of the machine's own and of a type that a machine may have; a
-- conventional one lacks RUNTIME
pub record IsMachineRun (r : Run) : Type 0 where
  pub some : 0 < r.range.pages
  pub within : r.range.first + r.range.pages ≤ page_count
  pub given : r.owner ≡ Given
  pub mtype : is_machine_type r.mtype ≡ true
  pub no_runtime : r.mtype ≡ conventional → has_runtime r.attributes ≡ false

-- its type and attributes fit their fields of a record of the memory map
pub record HasRecordNumbers (r : Run) : Type 0 where
  pub mtype : r.mtype < 2 ^ 32
  pub attributes : r.attributes < 2 ^ 64
