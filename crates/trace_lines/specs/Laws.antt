-- The laws of trace lines. Each is the contract of a public function.
use Rattle.std.specs.Prelude.{◌≡◌, ℕ, ◌^◌, ◌<◌, List, length, Some, Ok}
use Rattle.std.specs.List.{AllByRecursion}
use Rattle.boot_calls.specs.declared.calls.Call.{Call}
use Rattle.boot_calls.specs.declared.calls.Call.TheVariants as call
use Rattle.boot_calls.specs.CallNumbers.{NamesTypes}
use Rattle.trace_lines.specs.declared.lines.TraceCall.TheVariants.{Service}
use Rattle.trace_lines.specs.TraceLine.{line_of}

-- A call that a line asks for names no type of more than 32 bits.
abbrev pub NamedTypesLaw : Type 0 → Type 0
NamedTypesLaw A = (line : List ℕ) (c : Call A) → line_of line ≡ Ok (Some (Service c)) → NamesTypes c

-- 16 bytes
abbrev pub IsGuid : List ℕ → Type 0
IsGuid guid = (length guid ≡ 16) × AllByRecursion (λ b. b < 256) guid

-- the numbers of a call are of 32 and 64 bits, as its service takes them, its bytes are below 256,
-- and its GUIDs have 16
abbrev pub HasCallNumbers : {A : Type 0} → Call A → Type 0
HasCallNumbers (call.AllocatePages kind t pages memory) =
    (kind < 2 ^ 32) × (t < 2 ^ 32) × (pages < 2 ^ 64) × (memory < 2 ^ 64)
HasCallNumbers (call.FreePages memory pages) = (memory < 2 ^ 64) × (pages < 2 ^ 64)
HasCallNumbers (call.GetMemoryMap size) = size < 2 ^ 64
HasCallNumbers (call.AllocatePool t size) = (t < 2 ^ 32) × (size < 2 ^ 64)
HasCallNumbers (call.FreePool address) = address < 2 ^ 64
HasCallNumbers (call.PoolRead address size) = (address < 2 ^ 64) × (size < 2 ^ 64)
HasCallNumbers (call.PoolWrite address bytes) =
    (address < 2 ^ 64) × AllByRecursion (λ b. b < 256) bytes
HasCallNumbers (call.InstallProtocolInterface handle guid kind value) =
    (handle < 2 ^ 64) × IsGuid guid × (kind < 2 ^ 32) × (value < 2 ^ 64)
HasCallNumbers (call.InstallMultipleProtocolInterfaces handle pairs) =
    (handle < 2 ^ 64) × AllByRecursion (λ pair. IsGuid pair.0 × (pair.1 < 2 ^ 64)) pairs
HasCallNumbers (call.UninstallProtocolInterface handle guid value) =
    (handle < 2 ^ 64) × IsGuid guid × (value < 2 ^ 64)
HasCallNumbers (call.ReinstallProtocolInterface handle guid old new) =
    (handle < 2 ^ 64) × IsGuid guid × (old < 2 ^ 64) × (new < 2 ^ 64)
HasCallNumbers (call.RegisterProtocolNotify guid event) = IsGuid guid × (event < 2 ^ 64)
HasCallNumbers (call.LocateHandle search guid key size) =
    (search < 2 ^ 32) × IsGuid guid × (key < 2 ^ 64) × (size < 2 ^ 64)
HasCallNumbers (call.LocateHandleBuffer search guid key) =
    (search < 2 ^ 32) × IsGuid guid × (key < 2 ^ 64)
HasCallNumbers (call.LocateProtocol guid key) = IsGuid guid × (key < 2 ^ 64)
HasCallNumbers (call.ProtocolsPerHandle handle) = handle < 2 ^ 64
HasCallNumbers (call.OpenProtocol handle guid agent controller attributes) =
    (handle < 2 ^ 64) × IsGuid guid × (agent < 2 ^ 64) × (controller < 2 ^ 64)
    × (attributes < 2 ^ 32)
HasCallNumbers (call.CloseProtocol handle guid agent controller) =
    (handle < 2 ^ 64) × IsGuid guid × (agent < 2 ^ 64) × (controller < 2 ^ 64)
HasCallNumbers (call.OpenProtocolInformation handle guid) = (handle < 2 ^ 64) × IsGuid guid
HasCallNumbers (call.HandleProtocol handle guid) = (handle < 2 ^ 64) × IsGuid guid
HasCallNumbers (call.ConnectController handle drivers recursive) =
    (handle < 2 ^ 64) × AllByRecursion (λ driver. driver < 2 ^ 64) drivers
HasCallNumbers (call.DisconnectController handle driver) = (handle < 2 ^ 64) × (driver < 2 ^ 64)
HasCallNumbers (call.LocateDevicePath guid address) = IsGuid guid × (address < 2 ^ 64)
HasCallNumbers (call.ExitBootServices key) = key < 2 ^ 64

-- The numbers of a call that a line asks for are of the bits that its service takes, and its GUIDs
-- are GUIDs.
abbrev pub CallNumbersLaw : Type 0 → Type 0
CallNumbersLaw A =
    (line : List ℕ) (c : Call A) → line_of line ≡ Ok (Some (Service c)) → HasCallNumbers c
