use Rattle.boot_core.proofs.MapReplies.{map_step}
use Rattle.boot_core.proofs.laws.map_step_law.Goals as goal

pub returns : goal.returns
returns g c = λ ds old buffer returned after new used step bytes. map_step ds old buffer returned after new used step bytes
