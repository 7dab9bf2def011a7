use Rattle.boot_core.specs.Steps.{any_starts, best_starts}
use Rattle.boot_core.proofs.FreeMemory.{never_refused}
use Rattle.boot_core.proofs.laws.free_memory_law.Goals as goal

pub returns-clause-best : goal.returns-clause-best
returns-clause-best g c = λ ds old address pages answer new. never_refused (best_starts ds) old address pages answer new

pub returns-clause-any : goal.returns-clause-any
returns-clause-any g c = λ ds old address pages answer new. never_refused (any_starts ds) old address pages answer new
