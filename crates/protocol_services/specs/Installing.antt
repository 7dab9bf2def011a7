-- What installs interfaces and registers for them, and which events are signaled.
use Rattle.std.specs.Prelude.{◌≡◌, ℕ, ◌+◌, true, false, Bool, List, [], ◌∷◌, flat_map, length, Option, Some, None, Result, Ok, Err}
use Rattle.page_ranges.specs.declared.statuses.Status.{Status}
use Rattle.page_ranges.specs.declared.statuses.Status.TheVariants.{InvalidParameter, OutOfResources, AlreadyStarted}
use Rattle.guid_handles.specs.HandleChanges.{Installs, install_many_refusal, install_refusal}
use Rattle.protocol_notify.specs.declared.notify.Registration.{Registration}
use Rattle.protocol_notify.specs.Registrations.{events_for, with_registration}
use Rattle.boot_calls.specs.declared.replies.Installed.{Installed}
use Rattle.protocol_services.specs.Lists.{Lists, OnHandles}

-- the events of pairs of GUID and value that are installed: for each in turn, those of the
-- registrations for its GUID
abbrev pub signaled : List Registration → List (List ℕ × ℕ) → List ℕ
signaled rs pairs = flat_map (λ p. events_for rs p.0) pairs

-- What an installation returns, given its refusal, and the lists after it: the handle with its
-- interfaces and the events, or a refusal that leaves the lists. Where nothing is refused,
-- OUT_OF_RESOURCES means out of memory or of numbers.
abbrev pub InstallsPairs : {A : Type 0} → Lists → ℕ → List (List ℕ × ℕ) → Option Status
    → Result (Installed A) Status → Lists → Type 0
InstallsPairs l handle pairs refusal (Ok done) new =
    OnHandles (Installs l.handles handle pairs refusal (Ok done.handle)) l new
    × (done.events.items ≡ signaled l.registrations pairs)
InstallsPairs l handle pairs refusal (Err status) new =
    OnHandles (Installs l.handles handle pairs refusal (Err status)) l new

-- a refusal, or OUT_OF_RESOURCES where there is none
abbrev pub or_out_of_memory : Option Status → Status
or_out_of_memory None = OutOfResources
or_out_of_memory (Some status) = status

-- A refusal of InstallMultipleProtocolInterfaces, where the path of one of the pairs is installed
-- already or not: that is returned after what is wrong with the call, and before a limit.
abbrev pub unless_path : Bool → Option Status → Option Status
unless_path false refusal = refusal
unless_path true (Some InvalidParameter) = Some InvalidParameter
unless_path true refusal = Some AlreadyStarted

-- why InstallMultipleProtocolInterfaces is refused
abbrev pub many_refusal : Lists → ℕ → List (List ℕ × ℕ) → Bool → Option Status
many_refusal l handle pairs has_path =
    unless_path has_path (install_many_refusal l.handles handle pairs)

-- what InstallProtocolInterface returns, and the lists after it
abbrev pub InstallsInterface : {A : Type 0} → Lists → ℕ → List ℕ → ℕ → ℕ
    → Result (Installed A) Status → Lists → Type 0
InstallsInterface l handle guid kind value result new =
    InstallsPairs l handle ((guid, value) ∷ [])
    (install_refusal l.handles handle guid kind) result new

-- what InstallMultipleProtocolInterfaces returns, and the lists after it
abbrev pub InstallsInterfaces : {A : Type 0} → Lists → ℕ → List (List ℕ × ℕ) → Bool
    → Result (Installed A) Status → Lists → Type 0
InstallsInterfaces l handle pairs has_path result new =
    InstallsPairs l handle pairs (many_refusal l handle pairs has_path) result new

-- What RegisterProtocolNotify returns, and the lists after it: a key, or OUT_OF_RESOURCES where
-- memory runs out.
abbrev pub Registers : Lists → List ℕ → ℕ → Result ℕ Status → Lists → Type 0
Registers l guid event (Ok key) new =
    (key ≡ length l.registrations + 1)
    × (new ≡ record l { registrations = with_registration l.handles guid event l.registrations })
Registers l guid event (Err OutOfResources) new = new ≡ l
Registers l guid event (Err status) new = ⊥
