use Rattle.page_services.specs.PageRules.{IsAnyStart, IsBestChoice}
use Rattle.page_services.proofs.Choices.{best_is_permitted}
use Rattle.pool_services.proofs.KeptPools.{placed-keeps}
use Rattle.pool_services.proofs.laws.placed_keeps_pool_law.Goals as goal

pub returns-clause-any : goal.returns-clause-any
returns-clause-any g c = placed-keeps IsAnyStart (λ m r start certificate h. h)

pub returns-clause-best : goal.returns-clause-best
returns-clause-best g c = placed-keeps IsBestChoice best_is_permitted
