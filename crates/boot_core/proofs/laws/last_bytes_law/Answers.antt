use Rattle.boot_core.proofs.LastBytes.{last_bytes}
use Rattle.boot_core.proofs.laws.last_bytes_law.Goals as goal

pub returns : goal.returns
returns g c = λ ds first old call answer address bytes calls replies new run used after sound step lays leaves reads. last_bytes ds first old call answer address bytes calls replies new run used after sound step lays leaves reads
