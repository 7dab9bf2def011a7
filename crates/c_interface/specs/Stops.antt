-- What a caller in C learns that stops drivers itself.
use Rattle.std.specs.Prelude.{◌≡◌, ◌⊎◌, ℕ, List}
use Rattle.page_ranges.specs.Statuses.{status_number}
use Rattle.page_ranges.specs.declared.statuses.Status.TheVariants.{OutOfResources}
use Rattle.guid_handles.specs.declared.records.Pair.{Pair}
use Rattle.boot_core.specs.Stops as stops
use Rattle.c_machines.specs.declared.guids.Guid.{Guid}
use Rattle.c_machines.specs.Guids.{guid_in}
use Rattle.c_interface.specs.EfiCores.{EfiCoreValue}
use Rattle.c_interface.specs.Questions.{FillsWith}

-- the drivers to be stopped, in order, before an interface can be freed of them
abbrev pub stops_on_interface : {A : Type 0} → EfiCoreValue A → ℕ → Guid → List Pair
stops_on_interface c handle guid =
    stops.stops_on_interface c.core.state.parts.lists handle (guid_in guid)

-- the drivers to be stopped, in order, before a handle can be disconnected
abbrev pub stops_on_controller : {A : Type 0} → EfiCoreValue A → ℕ → ℕ → List Pair
stops_on_controller c handle driver =
    stops.stops_on_controller c.core.state.parts.lists handle driver

-- the children of a driver on a controller
abbrev pub children : {A : Type 0} → EfiCoreValue A → ℕ → ℕ → List ℕ
children c controller agent = stops.children c.core.state.parts.lists controller agent

-- A list is in the caller's buffer, or memory ran out for it, which leaves the caller's variables.
abbrev pub FillsOrRunsOut : {X : Type 0} → List X → ℕ → List X → ℕ → ℕ → List X → Type 0
FillsOrRunsOut items count buffer status new_count new_buffer =
    FillsWith items status buffer new_count new_buffer
    ⊎ ((status ≡ status_number OutOfResources) × (new_count ≡ count) × (new_buffer ≡ buffer))

-- the drivers to be stopped before an interface can be freed of them, in the caller's buffer
abbrev pub ListsStops : {A : Type 0} → EfiCoreValue A → ℕ → Guid
    → ℕ → List Pair → ℕ → ℕ → List Pair → Type 0
ListsStops c handle guid count buffer status new_count new_buffer =
    FillsOrRunsOut (stops_on_interface c handle guid) count buffer status new_count new_buffer

-- those to be stopped before a handle can be disconnected
abbrev pub ListsManagers : {A : Type 0} → EfiCoreValue A → ℕ → ℕ
    → ℕ → List Pair → ℕ → ℕ → List Pair → Type 0
ListsManagers c handle driver count buffer status new_count new_buffer =
    FillsOrRunsOut (stops_on_controller c handle driver) count buffer status new_count new_buffer

-- the children of a driver on a controller
abbrev pub ListsChildren : {A : Type 0} → EfiCoreValue A → ℕ → ℕ
    → ℕ → List ℕ → ℕ → ℕ → List ℕ → Type 0
ListsChildren c controller agent count buffer status new_count new_buffer =
    FillsOrRunsOut (children c controller agent) count buffer status new_count new_buffer
