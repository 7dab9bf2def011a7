use Rattle.page_services.proofs.Choices.{best_is_permitted}
use Rattle.boot_core.specs.Steps.{any_starts, best_starts}
use Rattle.boot_core.proofs.Soundness.{sound_after}
use Rattle.boot_core.proofs.laws.sound_law.Goals as goal

pub returns-clause-best : goal.returns-clause-best
returns-clause-best g c = λ ds placements certifies machine calls replies new valid run. sound_after (best_starts ds) best_is_permitted placements certifies machine calls replies new valid run

pub returns-clause-any : goal.returns-clause-any
returns-clause-any g c = λ ds placements certifies machine calls replies new valid run. sound_after (any_starts ds) (λ b r p returned h. h) placements certifies machine calls replies new valid run
