-- What a caller in C gets of a reply: a status, numbers in variables of the caller's, events.
use Rattle.std.specs.Prelude.{ℕ, List, [], Option, Some, None, Result, Ok, Err}
use Rattle.page_ranges.specs.declared.statuses.Status.{Status}
use Rattle.page_ranges.specs.declared.statuses.Status.TheVariants.{Success}
use Rattle.boot_replies.specs.declared.replies.Reply.{Reply}
use Rattle.boot_replies.specs.declared.replies.Reply.TheVariants as reply

-- the status that a result is returned as
abbrev pub returned_status : {R : Type 0} → Result R Status → Status
returned_status (Ok done) = Success
returned_status (Err status) = status

-- the status of a reply
abbrev pub status_in : {A : Type 0} → Reply A → Status
status_in (reply.AllocatePages result) = returned_status result
status_in (reply.FreePages result) = returned_status result
status_in (reply.GetMemoryMap returned bytes) = returned.status
status_in (reply.AllocatePool result) = returned_status result
status_in (reply.FreePool result) = returned_status result
status_in (reply.PoolRead status bytes) = status
status_in (reply.PoolWrite result) = returned_status result
status_in (reply.InstallProtocolInterface result) = returned_status result
status_in (reply.InstallMultipleProtocolInterfaces result) = returned_status result
status_in (reply.UninstallProtocolInterface result) = returned_status result
status_in (reply.ReinstallProtocolInterface result) = returned_status result
status_in (reply.RegisterProtocolNotify result) = returned_status result
status_in (reply.LocateHandle returned) = returned.status
status_in (reply.LocateHandleBuffer result) = returned_status result
status_in (reply.LocateProtocol result) = returned_status result
status_in (reply.ProtocolsPerHandle result) = returned_status result
status_in (reply.OpenProtocol result) = returned_status result
status_in (reply.CloseProtocol result) = returned_status result
status_in (reply.OpenProtocolInformation result) = returned_status result
status_in (reply.HandleProtocol result) = returned_status result
status_in (reply.ConnectController result) = returned_status result
status_in (reply.DisconnectController result) = returned_status result
status_in (reply.LocateDevicePath result) = returned_status result
status_in (reply.ExitBootServices result) = returned_status result

-- the number that a reply has: an address, a handle, a registration's key or the value of an
-- interface
abbrev pub number_in : {A : Type 0} → Reply A → Option ℕ
number_in (reply.AllocatePages (Ok placed)) = Some placed.address
number_in (reply.AllocatePool (Ok block)) = Some block.0
number_in (reply.InstallProtocolInterface (Ok done)) = Some done.handle
number_in (reply.InstallMultipleProtocolInterfaces (Ok done)) = Some done.handle
number_in (reply.RegisterProtocolNotify (Ok key)) = Some key
number_in (reply.LocateProtocol (Ok value)) = Some value
number_in (reply.OpenProtocol (Ok value)) = value
number_in (reply.HandleProtocol (Ok value)) = Some value
number_in answer = None

-- the two numbers that a reply has: how many items are in a block of the pool, and its address; or
-- a handle, and the address behind the nodes that its device path matched
abbrev pub numbers_in : {A : Type 0} → Reply A → Option (ℕ × ℕ)
numbers_in (reply.LocateHandleBuffer (Ok returned)) = Some (returned.count, returned.address)
numbers_in (reply.OpenProtocolInformation (Ok returned)) = Some (returned.count, returned.address)
numbers_in (reply.LocateDevicePath (Ok found)) = Some found
numbers_in answer = None

-- the events that a call signals
abbrev pub events_in : {A : Type 0} → Reply A → List ℕ
events_in (reply.InstallProtocolInterface (Ok done)) = done.events.items
events_in (reply.InstallMultipleProtocolInterfaces (Ok done)) = done.events.items
events_in (reply.ReinstallProtocolInterface (Ok events)) = events.items
events_in (reply.ConnectController (Ok events)) = events.items
events_in answer = []

-- what is in the caller's variable: the number that is returned, else what was there
abbrev pub returned_or : {T : Type 0} → T → Option T → T
returned_or old (Some returned) = returned
returned_or old None = old

-- the same of a result that is a number
abbrev pub value_or : ℕ → Result ℕ Status → ℕ
value_or old (Ok value) = value
value_or old (Err status) = old

-- the same of OpenProtocol's, which has no number for TEST_PROTOCOL
abbrev pub opened_or : ℕ → Result (Option ℕ) Status → ℕ
opened_or old (Ok value) = returned_or old value
opened_or old (Err status) = old
