-- What is made of records and tables, as a variable of the caller's has it.
use Rattle.std.specs.Prelude.{◌≡◌, ℕ, List, Result, Ok, Err, MatchOption, MatchResult}
use Rattle.boot_core.specs.Machines.{prepared_placements}
use Rattle.c_machines.specs.declared.drivers.DriverTable.{DriverTable}
use Rattle.c_interface.specs.EfiCores.{EfiCoreValue, preparing_core}
use Rattle.c_interface.specs.Making.{LiesFrom, MakesCore}
use Rattle.boot_services_c.specs.Cores.{CoreHeap}
use Rattle.boot_services_c.specs.Places.{Held}
use Rattle.boot_services_c.specs.declared.place.Place.{Place}

-- The core is the one that the records and tables describe, with memory reserved ahead for its
-- first placements.
abbrev pub IsPreparedCore : ℕ → List ℕ → ℕ → List DriverTable → EfiCoreValue CoreHeap → Type 0
IsPreparedCore size records granule tables core =
    (made : EfiCoreValue CoreHeap) × MakesCore size records granule tables (Ok made)
    × (core ≡ preparing_core prepared_placements made)

-- The core that is held is the one that the records and tables describe, with memory reserved ahead.
abbrev pub Holds : ℕ → List ℕ → ℕ → List DriverTable → Held → Type 0
Holds size records granule tables held =
    MatchOption held ⊥ (λ handle. IsPreparedCore size records granule tables handle.core)

-- The pool of the core that is held lies in memory whose pages are those of the machine from one on.
abbrev pub HoldsOver : ℕ → Held → Type 0
HoldsOver first held = MatchOption held ⊥ (λ handle. LiesFrom first handle.core)

-- No core is made, with this status.
abbrev pub Refuses : ℕ → List ℕ → ℕ → List DriverTable → ℕ → Type 0
Refuses size records granule tables status =
    MakesCore {A = CoreHeap} size records granule tables (Err status)

-- The variable holds the core that the records and tables describe, or none is made.
abbrev pub MakesPlace : ℕ → List ℕ → ℕ → List DriverTable → Result Place ℕ → Type 0
MakesPlace size records granule tables made =
    MatchResult made (λ place. Holds size records granule tables place.held)
    (Refuses size records granule tables)
