use Rattle.boot_core.proofs.PoolBytes.{read_bytes}
use Rattle.boot_core.proofs.laws.read_bytes_law.Goals as goal

pub returns : goal.returns
returns g c = λ ds old address size bytes new sound step. read_bytes ds old.exited old.parts new.parts address size bytes sound step.answers
