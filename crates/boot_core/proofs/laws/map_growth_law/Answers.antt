use Rattle.boot_core.specs.Steps.{any_starts, best_starts}
use Rattle.page_services.proofs.Choices.{best_is_permitted}
use Rattle.boot_core.proofs.Growth.{grown_map}
use Rattle.boot_core.proofs.laws.map_growth_law.Goals as goal

pub returns-clause-best : goal.returns-clause-best
returns-clause-best g c = λ ds placements certifies machine calls replies new valid run. grown_map (best_starts ds) best_is_permitted placements certifies machine calls replies new valid run

pub returns-clause-any : goal.returns-clause-any
returns-clause-any g c = λ ds placements certifies machine calls replies new valid run. grown_map (any_starts ds) (λ b r p returned h. h) placements certifies machine calls replies new valid run
