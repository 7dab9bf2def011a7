use Rattle.boot_core.specs.Steps.{any_starts, best_starts}
use Rattle.page_services.proofs.Choices.{best_is_permitted}
use Rattle.boot_core.proofs.Keys.{key_counts}
use Rattle.boot_core.proofs.laws.key_count_law.Goals as goal

pub returns-clause-best : goal.returns-clause-best
returns-clause-best g c = λ ds old calls replies new run n proper. key_counts (best_starts ds) best_is_permitted old calls replies new run n proper

pub returns-clause-any : goal.returns-clause-any
returns-clause-any g c = λ ds old calls replies new run n proper. key_counts (any_starts ds) (λ b r p returned h. h) old calls replies new run n proper
