-- Results as statuses.
use Rattle.std.specs.Prelude.{Result, Ok, Err}
use Rattle.page_ranges.specs.declared.statuses.Status.{Status}
use Rattle.page_ranges.specs.declared.statuses.Status.TheVariants.{Success}

-- the status of a result
abbrev pub returned_status : Result (Unit {0}) Status → Status
returned_status (Ok done) = Success
returned_status (Err status) = status
