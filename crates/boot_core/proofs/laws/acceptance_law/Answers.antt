use Rattle.boot_core.proofs.Acceptances.{accepted_run}
use Rattle.boot_core.proofs.laws.acceptance_law.Goals as goal

pub returns : goal.returns
returns g c = λ ds placements certifies machine calls replies new run valid. accepted_run ds placements certifies machine calls replies new run valid
