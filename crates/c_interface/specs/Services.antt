-- Each service through C, by the name of what it does: the core before the call, what is passed, the
-- caller's variables before, the status, the variables after, and the core after the call.
use Rattle.std.specs.Prelude.{ℕ, Bool, List, length, map}
use Rattle.boot_calls.specs.declared.calls.Call.TheVariants as call
use Rattle.c_machines.specs.declared.guids.Guid.{Guid}
use Rattle.c_machines.specs.declared.guids.Interface.{Interface}
use Rattle.c_machines.specs.Guids.{guid_in, interface_in}
use Rattle.c_interface.specs.EfiCores.{EfiCoreValue}
use Rattle.c_interface.specs.Served.{MapPlaces, AnswersStatus, AnswersNumber, AnswersNumbers, AnswersHandles, AnswersGuids, AnswersMap, handle_bytes}

-- ---- memory

-- the caller's variables that GetMemoryMap fills, in the order of its parameters
abbrev pub places : ℕ × ℕ × ℕ × ℕ → MapPlaces
places (size, key, descriptor_size, version) = record {
  size = size;
  key = key;
  descriptor_size = descriptor_size;
  version = version;
}

-- AllocatePages: the kind, the type, how many pages, and the caller's variable for their address
abbrev pub AllocatesPages : {A : Type 0} → EfiCoreValue A → ℕ → ℕ → ℕ → ℕ → ℕ → ℕ → EfiCoreValue A
    → Type 0
AllocatesPages old kind mtype pages memory status new_memory new =
    AnswersNumber old (call.AllocatePages kind mtype pages memory) memory status new_memory new

-- AllocatePool: the type, the bytes, and the caller's variable for the block's address
abbrev pub AllocatesPool : {A : Type 0} → EfiCoreValue A → ℕ → ℕ → ℕ → ℕ → ℕ → EfiCoreValue A
    → Type 0
AllocatesPool old mtype size buffer status new_buffer new =
    AnswersNumber old (call.AllocatePool mtype size) buffer status new_buffer new

-- GetMemoryMap: the caller's buffer, and the caller's variables for the bytes that the map takes, its
-- key, and the size and the version of its descriptors
abbrev pub Maps : {A : Type 0} → EfiCoreValue A → List ℕ → ℕ × ℕ × ℕ × ℕ → ℕ → List ℕ
    → ℕ × ℕ × ℕ × ℕ → EfiCoreValue A → Type 0
Maps old map before status new_map after new =
    AnswersMap old map (places before) status new_map (places after) new

-- ---- protocols

-- InstallProtocolInterface: the handle or 0, the GUID, the kind and the interface's value
abbrev pub Installs : {A : Type 0} → EfiCoreValue A → ℕ → Guid → ℕ → ℕ → ℕ → ℕ → EfiCoreValue A
    → Type 0
Installs old handle guid kind value status new_handle new =
    AnswersNumber old (call.InstallProtocolInterface handle (guid_in guid) kind value) handle status
    new_handle new

-- InstallMultipleProtocolInterfaces: the handle or 0, and pairs of GUID and value
abbrev pub InstallsPairs : {A : Type 0} → EfiCoreValue A → ℕ → List (List ℕ × ℕ) → ℕ → ℕ
    → EfiCoreValue A → Type 0
InstallsPairs old handle pairs status new_handle new =
    AnswersNumber old (call.InstallMultipleProtocolInterfaces handle pairs) handle status new_handle
    new

-- the same: the handle or 0, and the interfaces
abbrev pub InstallsAll : {A : Type 0} → EfiCoreValue A → ℕ → List Interface → ℕ → ℕ
    → EfiCoreValue A → Type 0
InstallsAll old handle interfaces status new_handle new =
    InstallsPairs old handle (map interface_in interfaces) status new_handle new

-- UninstallProtocolInterface: the handle, the GUID and the interface's value
abbrev pub Uninstalls : {A : Type 0} → EfiCoreValue A → ℕ → Guid → ℕ → ℕ → EfiCoreValue A → Type 0
Uninstalls old handle guid value status new =
    AnswersStatus old (call.UninstallProtocolInterface handle (guid_in guid) value) status new

-- ReinstallProtocolInterface: the handle, the GUID, the interface's value and its new one
abbrev pub Reinstalls : {A : Type 0} → EfiCoreValue A → ℕ → Guid → ℕ → ℕ → ℕ → EfiCoreValue A
    → Type 0
Reinstalls old handle guid old_value new_value status new =
    AnswersStatus old (call.ReinstallProtocolInterface handle (guid_in guid) old_value new_value)
    status new

-- RegisterProtocolNotify: the GUID, the event, and the caller's variable for the registration's key
abbrev pub Registers : {A : Type 0} → EfiCoreValue A → Guid → ℕ → ℕ → ℕ → ℕ → EfiCoreValue A
    → Type 0
Registers old guid event key status new_key new =
    AnswersNumber old (call.RegisterProtocolNotify (guid_in guid) event) key status new_key new

-- LocateHandle: the search, the GUID, the key, and the caller's variable for the bytes that the
-- handles take and buffer for them
abbrev pub LocatesHandles : {A : Type 0} → EfiCoreValue A → ℕ → Guid → ℕ → ℕ → List ℕ → ℕ → ℕ
    → List ℕ → EfiCoreValue A → Type 0
LocatesHandles old search guid key size buffer status new_size new_buffer new =
    AnswersHandles old
    (call.LocateHandle search (guid_in guid) key (handle_bytes (length buffer)))
    size buffer status new_size new_buffer new

-- LocateHandleBuffer: the search, the GUID, the key, and the caller's variables for how many handles
-- there are and the address of their block
abbrev pub LocatesBuffer : {A : Type 0} → EfiCoreValue A → ℕ → Guid → ℕ → ℕ × ℕ → ℕ → ℕ × ℕ
    → EfiCoreValue A → Type 0
LocatesBuffer old search guid key before status after new =
    AnswersNumbers old (call.LocateHandleBuffer search (guid_in guid) key) before status after new

-- LocateProtocol: the GUID, the key, and the caller's variable for the interface's value
abbrev pub LocatesProtocol : {A : Type 0} → EfiCoreValue A → Guid → ℕ → ℕ → ℕ → ℕ → EfiCoreValue A
    → Type 0
LocatesProtocol old guid key value status new_value new =
    AnswersNumber old (call.LocateProtocol (guid_in guid) key) value status new_value new

-- LocateDevicePath: the GUID, and the caller's variables for the handle and the path's address
abbrev pub LocatesPath : {A : Type 0} → EfiCoreValue A → Guid → ℕ × ℕ → ℕ → ℕ × ℕ → EfiCoreValue A
    → Type 0
LocatesPath old guid (device, path) status after new =
    AnswersNumbers old (call.LocateDevicePath (guid_in guid) path) (device, path) status after new

-- HandleProtocol: the handle, the GUID, and the caller's variable for the interface's value
abbrev pub HandlesProtocol : {A : Type 0} → EfiCoreValue A → ℕ → Guid → ℕ → ℕ → ℕ → EfiCoreValue A
    → Type 0
HandlesProtocol old handle guid value status new_value new =
    AnswersNumber old (call.HandleProtocol handle (guid_in guid)) value status new_value new

-- OpenProtocol: the handle, the GUID, the agent, the controller, the attributes, and the caller's
-- variable for the interface's value
abbrev pub Opens : {A : Type 0} → EfiCoreValue A → ℕ → Guid → ℕ → ℕ → ℕ → ℕ → ℕ → ℕ
    → EfiCoreValue A → Type 0
Opens old handle guid agent controller attributes value status new_value new =
    AnswersNumber old (call.OpenProtocol handle (guid_in guid) agent controller attributes) value
    status new_value new

-- CloseProtocol: the handle, the GUID, the agent and the controller
abbrev pub Closes : {A : Type 0} → EfiCoreValue A → ℕ → Guid → ℕ → ℕ → ℕ → EfiCoreValue A → Type 0
Closes old handle guid agent controller status new =
    AnswersStatus old (call.CloseProtocol handle (guid_in guid) agent controller) status new

-- OpenProtocolInformation: the handle, the GUID, and the caller's variables for how many open items
-- there are and the address of their block
abbrev pub ListsOpens : {A : Type 0} → EfiCoreValue A → ℕ → Guid → ℕ × ℕ → ℕ → ℕ × ℕ
    → EfiCoreValue A → Type 0
ListsOpens old handle guid before status after new =
    AnswersNumbers old (call.OpenProtocolInformation handle (guid_in guid)) before status after new

-- ProtocolsPerHandle: the handle, and the caller's variable for how many GUIDs there are and buffer
-- for them
abbrev pub ListsGuids : {A : Type 0} → EfiCoreValue A → ℕ → ℕ → List Guid → ℕ → ℕ → List Guid
    → EfiCoreValue A → Type 0
ListsGuids old handle count buffer status new_count new_buffer new =
    AnswersGuids old (call.ProtocolsPerHandle handle) count buffer status new_count new_buffer new

-- ConnectController: the handle, the drivers that are tried first, and whether it is recursive
abbrev pub Connects : {A : Type 0} → EfiCoreValue A → ℕ → List ℕ → Bool → ℕ → EfiCoreValue A
    → Type 0
Connects old handle drivers recursive status new =
    AnswersStatus old (call.ConnectController handle drivers recursive) status new

-- DisconnectController: the handle, and the driver or 0
abbrev pub Disconnects : {A : Type 0} → EfiCoreValue A → ℕ → ℕ → ℕ → EfiCoreValue A → Type 0
Disconnects old handle driver status new =
    AnswersStatus old (call.DisconnectController handle driver) status new
