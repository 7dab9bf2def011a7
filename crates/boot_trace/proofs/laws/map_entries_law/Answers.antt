use Rattle.boot_trace.proofs.MapEntries.{carried}
use Rattle.boot_trace.proofs.laws.map_entries_law.Goals as goal

pub returns : goal.returns
returns g c = λ ds old size returned bytes new entries fit step success carries. carried ds old size returned bytes new entries fit step success carries
