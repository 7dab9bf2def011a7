use Rattle.boot_core.specs.Steps.{any_starts, best_starts}
use Rattle.boot_core.proofs.RoomRuns.{room_after}
use Rattle.boot_core.proofs.laws.room_law.Goals as goal

pub returns-clause-best : goal.returns-clause-best
returns-clause-best g c = λ ds short placements certifies machine calls replies new run most. room_after (best_starts ds) placements certifies machine calls replies new short most run

pub returns-clause-any : goal.returns-clause-any
returns-clause-any g c = λ ds short placements certifies machine calls replies new run most. room_after (any_starts ds) placements certifies machine calls replies new short most run
