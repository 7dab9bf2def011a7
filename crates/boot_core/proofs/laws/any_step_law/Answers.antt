use Rattle.boot_core.proofs.AnySteps.{step_any}
use Rattle.boot_core.proofs.laws.any_step_law.Goals as goal

pub returns : goal.returns
returns g c = λ ds old call reply new s. step_any ds old call reply new s
