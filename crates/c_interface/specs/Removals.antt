-- UninstallMultipleProtocolInterfaces through C.
use Rattle.std.specs.Prelude.{◌≡◌, ◌⊎◌, ℕ, List, map, Result}
use Rattle.page_ranges.specs.Statuses.{status_number}
use Rattle.page_ranges.specs.declared.statuses.Status.{Status}
use Rattle.boot_core.specs.Removals.{UninstallStep}
use Rattle.c_machines.specs.declared.guids.Interface.{Interface}
use Rattle.c_machines.specs.Guids.{interface_in}
use Rattle.c_interface.specs.EfiCores.{EfiCoreValue, meanings}
use Rattle.c_interface.specs.Replies.{returned_status}
use Rattle.c_interface.specs.Served.{IsSpent, LeavesNothing, aborted}

-- its status, and how it leaves the core
abbrev pub AnswersUninstalls : {A : Type 0} → EfiCoreValue A → ℕ → List (List ℕ × ℕ) → ℕ
    → EfiCoreValue A → Type 0
AnswersUninstalls old handle pairs status new =
    ((result : Result (Unit {0}) Status)
    × UninstallStep (meanings old) old.core.state handle pairs result new.core.state
    × LeavesNothing old new × (status ≡ status_number (returned_status result)))
    ⊎ (IsSpent old new × (status ≡ aborted))

-- the same: the handle and the interfaces
abbrev pub UninstallsAll : {A : Type 0} → EfiCoreValue A → ℕ → List Interface → ℕ → EfiCoreValue A
    → Type 0
UninstallsAll old handle interfaces status new =
    AnswersUninstalls old handle (map interface_in interfaces) status new
