use Rattle.boot_core.proofs.ReadReplies.{read_step}
use Rattle.boot_core.proofs.laws.read_step_law.Goals as goal

pub returns : goal.returns
returns g c = λ ds old address buffer status after new used step bytes. read_step ds old address buffer status after new used step bytes
