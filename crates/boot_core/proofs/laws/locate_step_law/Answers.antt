use Rattle.boot_core.proofs.LocatedPaths.{locate_step}
use Rattle.boot_core.proofs.laws.locate_step_law.Goals as goal

pub returns : goal.returns
returns g c = λ ds old guid bytes address found new step here. locate_step ds old guid bytes address found new step here
