-- What a caller in C is returned of turns of drivers.
use Rattle.std.specs.Prelude.{◌≡◌, ◌⊎◌, ℕ, List, Option, Some, None, Ok, Err}
use Rattle.page_ranges.specs.Statuses.{status_number}
use Rattle.page_ranges.specs.declared.statuses.Status.{Status}
use Rattle.page_ranges.specs.declared.statuses.Status.TheVariants.{Success, NotFound}
use Rattle.driver_connect.specs.declared.agents.Agent.{Agent}
use Rattle.driver_connect.specs.declared.driver_turns.DriverTurns.{DriverTurns}
use Rattle.driver_connect.specs.DriverTurns.{BeginsTurns}
use Rattle.c_interface.specs.EfiCores.{EfiCoreValue}

-- The turns on a controller were begun on the caller's list, or were refused, which leaves the
-- caller's variables.
abbrev pub ReturnsTurns : {A : Type 0} → EfiCoreValue A → ℕ → List ℕ → List Agent × DriverTurns → ℕ
    → List Agent × DriverTurns → Type 0
ReturnsTurns c controller named old status new =
    ((status ≡ status_number Success)
    × BeginsTurns c.core.state.parts.lists.handles controller named old.0 (Ok new.1) new.0)
    ⊎ ((refusal : Status) × (status ≡ status_number refusal)
    × BeginsTurns c.core.state.parts.lists.handles controller named old.0 (Err refusal) new.0
    × (new.1 ≡ old.1))

-- the status, and the driver in the caller's variable
abbrev pub ReturnsDriver : Option Agent → Agent → ℕ → Agent → Type 0
ReturnsDriver (Some a) before status after = (status ≡ status_number Success) × (after ≡ a)
ReturnsDriver None before status after = (status ≡ status_number NotFound) × (after ≡ before)
