use Rattle.boot_core.proofs.AnySteps.{run_any}
use Rattle.boot_core.proofs.laws.any_run_law.Goals as goal

pub returns : goal.returns
returns g c = λ ds old calls replies new run. run_any ds old calls replies new run
