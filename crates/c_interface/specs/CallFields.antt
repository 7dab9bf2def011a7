-- A call as a caller in C describes it.
use Rattle.std.specs.Prelude.{◌≡◌, true, List, [], ◌∷◌, map, Option, Some, None, option_and_then, Result, Ok, Err}
use Rattle.std.specs.List.{slice_get}
use Rattle.page_ranges.specs.declared.statuses.Status.{Status}
use Rattle.page_ranges.specs.declared.statuses.Status.TheVariants.{InvalidParameter, OutOfResources}
use Rattle.trace_verbs.specs.declared.verbs.Verb.{Verb}
use Rattle.trace_verbs.specs.declared.verbs.Verb.TheVariants as verb
use Rattle.boot_calls.specs.declared.calls.Call.{Call}
use Rattle.boot_calls.specs.declared.calls.Call.TheVariants as call
use Rattle.call_texts.specs.CallLines.{may_ask}
use Rattle.c_machines.specs.Guids.{guid_in, interface_in}
use Rattle.c_interface.specs.declared.call_fields.CallFields.{CallFields}

-- the verbs of services at the numbers that these have in C; the number 0 is of none
abbrev pub services : List Verb
services = verb.List ∷ verb.Pages ∷ verb.FreePages ∷ verb.Map ∷ verb.Pool ∷ verb.FreePool
    ∷ verb.Read ∷ verb.Write ∷ verb.Install ∷ verb.InstallMany ∷ verb.Uninstall ∷ verb.Reinstall
    ∷ verb.Notify ∷ verb.Locate ∷ verb.LocateBuffer ∷ verb.LocateProtocol ∷ verb.Protocols
    ∷ verb.Open ∷ verb.Close ∷ verb.Information ∷ verb.HandleProtocol ∷ verb.Connect
    ∷ verb.Disconnect ∷ verb.Path ∷ verb.Exit ∷ []

-- the call of the service with a verb
abbrev pub call_by : {A : Type 0} → Verb → CallFields → Option (Call A)
call_by verb.Pages f = Some (call.AllocatePages f.kind f.mtype f.pages f.address)
call_by verb.FreePages f = Some (call.FreePages f.address f.pages)
call_by verb.Map f = Some (call.GetMemoryMap f.size)
call_by verb.Pool f = Some (call.AllocatePool f.mtype f.size)
call_by verb.FreePool f = Some (call.FreePool f.address)
call_by verb.Read f = Some (call.PoolRead f.address f.size)
call_by verb.Write f = Some (call.PoolWrite f.address f.bytes.now)
call_by verb.Install f =
    Some (call.InstallProtocolInterface f.handle (guid_in f.guid) f.kind f.value)
call_by verb.InstallMany f =
    Some (call.InstallMultipleProtocolInterfaces f.handle (map interface_in f.interfaces.now))
call_by verb.Uninstall f =
    Some (call.UninstallProtocolInterface f.handle (guid_in f.guid) f.value)
call_by verb.Reinstall f =
    Some (call.ReinstallProtocolInterface f.handle (guid_in f.guid) f.value f.new_value)
call_by verb.Notify f = Some (call.RegisterProtocolNotify (guid_in f.guid) f.event)
call_by verb.Locate f = Some (call.LocateHandle f.search (guid_in f.guid) f.key f.size)
call_by verb.LocateBuffer f = Some (call.LocateHandleBuffer f.search (guid_in f.guid) f.key)
call_by verb.LocateProtocol f = Some (call.LocateProtocol (guid_in f.guid) f.key)
call_by verb.Protocols f = Some (call.ProtocolsPerHandle f.handle)
call_by verb.Open f =
    Some (call.OpenProtocol f.handle (guid_in f.guid) f.agent f.controller f.attributes)
call_by verb.Close f =
    Some (call.CloseProtocol f.handle (guid_in f.guid) f.agent f.controller)
call_by verb.Information f = Some (call.OpenProtocolInformation f.handle (guid_in f.guid))
call_by verb.HandleProtocol f = Some (call.HandleProtocol f.handle (guid_in f.guid))
call_by verb.Connect f = Some (call.ConnectController f.handle f.drivers.now f.recursive)
call_by verb.Disconnect f = Some (call.DisconnectController f.handle f.driver)
call_by verb.Path f = Some (call.LocateDevicePath (guid_in f.guid) f.address)
call_by verb.Exit f = Some (call.ExitBootServices f.key)
call_by verb.List f = None

-- the call that fields describe, none where no service has the number
abbrev pub call_of : {A : Type 0} → CallFields → Option (Call A)
call_of f = option_and_then (λ v. call_by v f) (slice_get services f.service)

-- The call is made, for which memory may run out where a line may ask for it; INVALID_PARAMETER
-- where there is none.
abbrev pub MakesCall : {A : Type 0} → Option (Call A) → Result (Call A) Status → Type 0
MakesCall (Some c) (Ok made) = made ≡ c
MakesCall (Some c) (Err status) = (status ≡ OutOfResources) × (may_ask c ≡ true)
MakesCall None (Ok made) = ⊥
MakesCall None (Err status) = status ≡ InvalidParameter
