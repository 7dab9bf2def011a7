use Rattle.boot_core.specs.Steps.{any_starts, best_starts}
use Rattle.page_services.proofs.Choices.{best_is_permitted}
use Rattle.boot_core.proofs.Keys.{key_law}
use Rattle.boot_core.proofs.laws.key_law.Goals as goal

pub returns-clause-best : goal.returns-clause-best
returns-clause-best g c = λ ds first old key calls replies new run answer after proper gives open_still step. key_law (best_starts ds) best_is_permitted first old key calls replies new run answer after proper gives open_still step

pub returns-clause-any : goal.returns-clause-any
returns-clause-any g c = λ ds first old key calls replies new run answer after proper gives open_still step. key_law (any_starts ds) (λ b r p returned h. h) first old key calls replies new run answer after proper gives open_still step
