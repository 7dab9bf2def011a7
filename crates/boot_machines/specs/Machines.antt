-- What a machine is before any call.
use Rattle.std.specs.Prelude.{ℕ, List}
use Rattle.page_ranges.specs.declared.ranges.Run.{Run}
use Rattle.page_ranges.specs.Granules.{IsGranule}
use Rattle.page_ranges.specs.Runs.{IsValidMachine}

-- the most descriptors that a machine is made of
abbrev pub most_descriptors : ℕ
most_descriptors = 65536

-- the most drivers of a machine
abbrev pub most_drivers : ℕ
most_drivers = 64

-- the runs of its memory, and its granule
pub record MachineValue : Type 0 where
  pub runs : List Run
  pub granule : ℕ

-- The runs and the granule are such as a machine may have.
pub record IsMachine (m : MachineValue) : Type 0 where
  pub runs : IsValidMachine m.runs
  pub granule : IsGranule m.granule
