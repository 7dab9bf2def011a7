use Rattle.page_services.specs.PageRules.{IsAnyStart, IsBestChoice}
use Rattle.pool_services.proofs.KeptEnds.{freed-ends, placed-ends}
use Rattle.pool_services.proofs.laws.reserved_ends_law.Goals as goal

pub returns-clause-placed_any : goal.returns-clause-placed_any
returns-clause-placed_any g c = placed-ends IsAnyStart

pub returns-clause-placed_best : goal.returns-clause-placed_best
returns-clause-placed_best g c = placed-ends IsBestChoice

pub returns-clause-freed : goal.returns-clause-freed
returns-clause-freed g c = freed-ends
