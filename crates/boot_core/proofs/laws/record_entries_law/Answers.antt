use Rattle.boot_core.proofs.Acceptances.{entries_of_run}
use Rattle.boot_core.proofs.laws.record_entries_law.Goals as goal

pub returns : goal.returns
returns g c = λ ds placements certifies machine calls replies new valid numbers names run. entries_of_run ds placements certifies machine calls replies new valid numbers names run
