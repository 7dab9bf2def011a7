use Rattle.boot_core.proofs.PoolBytes.{bytes_after}
use Rattle.boot_core.proofs.laws.pool_bytes_law.Goals as goal

pub returns : goal.returns
returns g c = λ ds old call answer new sound step k. bytes_after ds old.exited old.parts call answer new.parts sound step.answers k
