-- Device paths in the memory of a caller in C: what is found of one, and how one is installed.
use Rattle.std.specs.Prelude.{◌≡◌, ◌≢◌, ◌⊎◌, ℕ, ◌<◌, List, [], ◌∷◌, length, Option, Some, None, unwrap_or, Result, Ok, Err}
use Rattle.page_ranges.specs.Statuses.{status_number}
use Rattle.page_ranges.specs.declared.statuses.Status.{Status}
use Rattle.page_ranges.specs.declared.statuses.Status.TheVariants.{Success, InvalidParameter}
use Rattle.device_path_locate.specs.DevicePaths.{Node, path_in}
use Rattle.device_path_locate.specs.Locating.{device_path_guid}
use Rattle.boot_calls.specs.declared.calls.Call.{Call}
use Rattle.boot_calls.specs.declared.calls.Call.TheVariants as call
use Rattle.boot_replies.specs.declared.replies.Reply.{Reply}
use Rattle.boot_core.specs.Machines.{State}
use Rattle.boot_core.specs.PathSteps.{LocateStep}
use Rattle.boot_core.specs.Steps.{Step}
use Rattle.driver_connect.specs.Drivers.{Meaning}
use Rattle.c_interface.specs.EfiCores.{EfiCoreValue, forgotten, meanings}
use Rattle.c_interface.specs.LastCalls.{left_of}
use Rattle.c_interface.specs.Replies.{number_in, returned_status, status_in}
use Rattle.c_interface.specs.Served.{IsSpent, LeavesNothing, Serves, aborted}

-- what is in the caller's variables: the handle and the bytes that match where one is found, else
-- what was there
abbrev pub found_or : ℕ × ℕ → Result (ℕ × ℕ) Status → ℕ × ℕ
found_or old (Ok found) = found
found_or old (Err status) = old

-- LocateDevicePath with a path in the caller's memory, given by its bytes
abbrev pub AnswersPath : {A : Type 0} → EfiCoreValue A → List ℕ → List ℕ → ℕ × ℕ → ℕ → ℕ × ℕ
    → EfiCoreValue A → Type 0
AnswersPath old guid path before status after new =
    ((found : Result (ℕ × ℕ) Status)
    × LocateStep old.core.state guid path found new.core.state × LeavesNothing old new
    × (status ≡ status_number (returned_status found)) × (after ≡ found_or before found))
    ⊎ (IsSpent old new × (status ≡ aborted) × (after ≡ before))

-- ---- an installation

-- the memory type of the block that a path is copied to: boot services data
abbrev pub path_type : ℕ
path_type = 4

-- how many calls an installation makes at most
abbrev pub most_path_calls : ℕ
most_path_calls = 4

-- the drivers, the switches and the block of a core are as they were, and this is left of a call
-- with this reply
pub record IsLeft {A : Type 0} (old : EfiCoreValue A) (reply : Reply A) (new : EfiCoreValue A)
    : Type 0 where
  pub given : new.core.given ≡ old.core.given
  pub certifies : new.certifies ≡ old.certifies
  pub keeps_replies : new.keeps_replies ≡ old.keeps_replies
  pub last : new.last ≡ left_of old.keeps_replies reply
  pub block : new.block ≡ old.block

-- the calls that write a path to a block of the pool, and install the block's address as the device
-- path of a handle
abbrev pub path_calls : {A : Type 0} → ℕ → List ℕ → ℕ → List (Call A)
path_calls handle path address =
    call.PoolWrite address path
    ∷ call.InstallMultipleProtocolInterfaces handle ((device_path_guid, address) ∷ []) ∷ []

-- Calls are made in order up to the first that is refused, and the last reply is this one.
abbrev pub RunsUntilRefused : {A : Type 0} → List Meaning → State → List (Call A) → Reply A → State
    → Type 0
RunsUntilRefused ds old [] reply new = ⊥
RunsUntilRefused ds old (c ∷ []) reply new = Step ds old c reply new
RunsUntilRefused {A = A} ds old (c ∷ calls) reply new =
    (Step ds old c reply new × (status_in reply ≢ Success))
    ⊎ ((answer : Reply A) × (next : State) × Step ds old c answer next
    × (status_in answer ≡ Success) × RunsUntilRefused ds next calls reply new)

-- a path is written to a block of the pool and installed on a handle, up to a refusal
abbrev pub WritesPath : {A : Type 0} → EfiCoreValue A → ℕ → List ℕ → ℕ → Reply A → EfiCoreValue A
    → Type 0
WritesPath old handle path address reply new =
    RunsUntilRefused (meanings old) old.core.state (path_calls handle path address) reply
    new.core.state

-- an installation that is done, whose handle and block are in the caller's variables; or one that
-- was refused, whose block is given back
abbrev pub EndsInstallation : {A : Type 0} → List Meaning → State → ℕ → Reply A → ℕ × ℕ → ℕ × ℕ
    → State → Type 0
EndsInstallation {A = A} ds made address reply before after new =
    ((status_in reply ≡ Success) × (after ≡ (unwrap_or (number_in reply) before.0, address))
    × (new ≡ made))
    ⊎ ((status_in reply ≢ Success) × (after ≡ before)
    × ((freed : Reply A) × Step ds made (call.FreePool address) freed new))

-- What follows the block of a path: the path is written to it and installed. The last reply of these
-- calls is left to be asked for, and the certificate of the block.
abbrev pub InstallsBlock : {A : Type 0} → EfiCoreValue A → List ℕ → ℕ → ℕ × ℕ → ℕ → ℕ × ℕ
    → EfiCoreValue A → Type 0
InstallsBlock {A = A} first path address before status after new =
    (reply : Reply A) × (made : State)
    × RunsUntilRefused (meanings first) first.core.state (path_calls before.0 path address) reply
    made
    × EndsInstallation (meanings first) made address reply before after new.core.state
    × (status ≡ status_number (status_in reply)) × IsLeft first reply new

-- the same where there is a block; else AllocatePool was refused, and nothing follows
abbrev pub InstallsAt : {A : Type 0} → EfiCoreValue A → List ℕ → Option ℕ → Reply A → ℕ × ℕ → ℕ
    → ℕ × ℕ → EfiCoreValue A → Type 0
InstallsAt first path None placed before status after new =
    (status ≡ status_number (status_in placed)) × (after ≡ before) × (new ≡ first)
InstallsAt first path (Some address) placed before status after new =
    InstallsBlock first path address before status after new

-- No installation can be made any more: the core is as it was, with nothing left of the call before.
pub record IsShort {A : Type 0} (old new : EfiCoreValue A) : Type 0 where
  pub short : old.core.state.calls_left < most_path_calls
  pub core : new ≡ forgotten old

-- The installation of the path that some bytes begin with, if they do, in a block of its own.
abbrev pub InstallsPathIn : {A : Type 0} → Option (List Node) → EfiCoreValue A → List ℕ → ℕ × ℕ → ℕ
    → ℕ × ℕ → EfiCoreValue A → Type 0
InstallsPathIn None old path before status after new =
    (status ≡ status_number InvalidParameter) × (after ≡ before) × (new ≡ forgotten old)
InstallsPathIn {A = A} (Some nodes) old path before status after new =
    ((placed : Reply A) × (first : EfiCoreValue A)
    × Serves old (call.AllocatePool path_type (length path)) placed first
    × InstallsAt first path (number_in placed) placed before status after new)
    ⊎ (IsShort old new × (status ≡ aborted) × (after ≡ before))

abbrev pub InstallsPath : {A : Type 0} → EfiCoreValue A → List ℕ → ℕ × ℕ → ℕ → ℕ × ℕ
    → EfiCoreValue A → Type 0
InstallsPath old path before status after new =
    InstallsPathIn (path_in path) old path before status after new
