-- What is printed of a trace line.
use Rattle.std.specs.Prelude.{ℕ, ◌*◌, List, [], ◌++◌, length, flat_map, codes, Option, Some, None, OnOk, Result, Ok, Err, String, Vec}
use Rattle.std.specs.declared.alloc.AllocError.{AllocError}
use Rattle.std.specs.Fmt.{decimal}
use Rattle.page_ranges.specs.declared.ranges.Descriptor.{Descriptor}
use Rattle.page_ranges.specs.MemoryTypes.{page_size}
use Rattle.page_ranges.specs.declared.statuses.Status.TheVariants.{Success, BufferTooSmall}
use Rattle.page_ranges.specs.declared.statuses.Status.{Status}
use Rattle.page_ranges.specs.Statuses.{name_of as status_of}
use Rattle.map_keys.specs.declared.memory_maps.MapReply.{MapReply}
use Rattle.boot_replies.specs.declared.replies.Reply.{Reply}
use Rattle.boot_replies.specs.declared.replies.Reply.TheVariants as reply
use Rattle.boot_replies.specs.declared.replies.PoolList.{PoolList}
use Rattle.boot_replies.specs.Returned.{returned_status}
use Rattle.boot_calls.specs.declared.replies.Installed.{Installed}
use Rattle.boot_calls.specs.declared.replies.LocateReply.{LocateReply}
use Rattle.reply_texts.specs.ListTexts.{events_text, guids_text, numbers_text}
use Rattle.trace_verbs.specs.declared.verbs.Verb.{Verb}
use Rattle.trace_verbs.specs.declared.verbs.Verb.TheVariants as verb
use Rattle.trace_verbs.specs.Verbs.{verb_name}
use Rattle.text_lines.specs.Printed.{Gains, hexadecimal, space, line_feed}
use Rattle.hex.specs.Hex.{encode_lower}

-- The bytes are appended to a text, unless memory runs out.
abbrev pub Prints : {A : Type 0} → Result (Unit {0}) AllocError → String A → String A → List ℕ
    → Type 0
Prints printed old new bytes = OnOk printed (Gains old new bytes)

-- the start of each reply: the line number and the verb
abbrev pub reply_start : ℕ → Verb → List ℕ
reply_start number v = decimal number ++ space ++ verb_name v

-- the line of a reply without fields
abbrev pub status_line : ℕ → Verb → List ℕ → List ℕ
status_line number v status = reply_start number v ++ space ++ status ++ line_feed

-- the line of a call that was given too small a buffer: the size needed
abbrev pub size_line : ℕ → Verb → ℕ → List ℕ
size_line number v size =
    reply_start number v ++ codes " BUFFER_TOO_SMALL size=" ++ decimal size ++ line_feed

-- the line of a call that succeeded with a value
abbrev pub value_line : ℕ → Verb → List ℕ → ℕ → List ℕ
value_line number v name value =
    reply_start number v ++ codes " SUCCESS " ++ name ++ codes "=" ++ hexadecimal value ++ line_feed

-- the line of a call that succeeded with bytes: each as two hexadecimal digits
abbrev pub bytes_line : ℕ → Verb → List ℕ → List ℕ
bytes_line number v bytes =
    reply_start number v ++ codes " SUCCESS bytes=" ++ encode_lower bytes ++ line_feed

-- the line of an entry of the memory map: two spaces, and its type, address, pages and attributes
abbrev pub descriptor_line : Descriptor → List ℕ
descriptor_line d =
    codes "  " ++ decimal d.mtype ++ space ++ hexadecimal (d.first * page_size) ++ space
    ++ decimal d.pages ++ space ++ hexadecimal d.attributes ++ line_feed

-- the line of a memory map that was written
abbrev pub map_line : ℕ → MapReply → List ℕ
map_line number returned =
    reply_start number verb.Map ++ codes " SUCCESS size=" ++ decimal returned.size ++ codes " key="
    ++ decimal returned.key ++ codes " descriptor-size=" ++ decimal returned.descriptor_size
    ++ codes " version=" ++ decimal returned.version ++ line_feed

-- What is printed of a GetMemoryMap with this reply, of this status: on success its line and those
-- of the entries.
abbrev pub map_text : ℕ → List Descriptor → MapReply → Status → List ℕ
map_text number entries returned Success =
    map_line number returned ++ flat_map descriptor_line entries
map_text number entries returned BufferTooSmall = size_line number verb.Map returned.size
map_text number entries returned status = status_line number verb.Map (status_of status)

-- the line of a read of the pool's bytes with this status: on success the bytes
abbrev pub read_line : ℕ → List ℕ → Status → List ℕ
read_line number bytes Success = bytes_line number verb.Read bytes
read_line number bytes status = status_line number verb.Read (status_of status)

-- the line of a reply that says how a call ended, and nothing else
abbrev pub result_line : ℕ → Verb → Result (Unit {0}) Status → List ℕ
result_line number v result = status_line number v (status_of (returned_status result))

-- the line of a reply with fields, or of a refusal
abbrev pub returned_line : {R : Type 0} → (R → List ℕ) → ℕ → Verb → Result R Status → List ℕ
returned_line fields number v (Ok returned) =
    reply_start number v ++ codes " SUCCESS " ++ fields returned ++ line_feed
returned_line fields number v (Err status) = status_line number v (status_of status)

-- the fields of an installation
abbrev pub installed_fields : {A : Type 0} → Installed A → List ℕ
installed_fields returned =
    codes "handle=" ++ decimal returned.handle ++ codes " events="
    ++ events_text returned.events.items

-- the field of the events that are signaled
abbrev pub events_field : {A : Type 0} → Vec ℕ A → List ℕ
events_field events = codes "events=" ++ events_text events.items

-- the fields of a list in a pool block
abbrev pub pool_list_fields : {A : Type 0} → PoolList A → List ℕ
pool_list_fields returned =
    codes "count=" ++ decimal returned.count ++ codes " address=" ++ hexadecimal returned.address

-- the field of an interface
abbrev pub interface_field : ℕ → List ℕ
interface_field value = codes "interface=" ++ hexadecimal value

-- the field of a registration
abbrev pub registration_field : ℕ → List ℕ
registration_field key = codes "registration=" ++ decimal key

-- the field of the GUIDs on a handle
abbrev pub guids_field : {A : Type 0} → Vec (List ℕ) A → List ℕ
guids_field guids = codes "guids=" ++ guids_text guids.items

-- the fields of a handle that a device path leads to
abbrev pub path_fields : ℕ × ℕ → List ℕ
path_fields found = codes "handle=" ++ decimal found.0 ++ codes " address=" ++ hexadecimal found.1

-- the line of an open, which may have no interface
abbrev pub opened_line : ℕ → Result (Option ℕ) Status → List ℕ
opened_line number (Ok None) = status_line number verb.Open (status_of Success)
opened_line number (Ok (Some value)) = returned_line interface_field number verb.Open (Ok value)
opened_line number (Err status) = status_line number verb.Open (status_of status)

-- the fields of a search that found handles: their size, and the handles
abbrev pub handles_fields : {A : Type 0} → LocateReply A → List ℕ
handles_fields returned =
    codes "size=" ++ decimal returned.size ++ codes " handles="
    ++ numbers_text returned.handles.items

-- the line of a search for handles, of this status
abbrev pub located_line : {A : Type 0} → ℕ → LocateReply A → Status → List ℕ
located_line number returned Success = returned_line handles_fields number verb.Locate (Ok returned)
located_line number returned BufferTooSmall = size_line number verb.Locate returned.size
located_line number returned status = status_line number verb.Locate (status_of status)

-- what is printed of a reply of the protocol services
abbrev pub protocol_text : {A : Type 0} → ℕ → Reply A → List ℕ
protocol_text number (reply.InstallProtocolInterface result) =
    returned_line installed_fields number verb.Install result
protocol_text number (reply.InstallMultipleProtocolInterfaces result) =
    returned_line installed_fields number verb.InstallMany result
protocol_text number (reply.UninstallProtocolInterface result) =
    result_line number verb.Uninstall result
protocol_text number (reply.ReinstallProtocolInterface result) =
    returned_line events_field number verb.Reinstall result
protocol_text number (reply.RegisterProtocolNotify result) =
    returned_line registration_field number verb.Notify result
protocol_text number (reply.LocateHandle returned) = located_line number returned returned.status
protocol_text number (reply.LocateHandleBuffer result) =
    returned_line pool_list_fields number verb.LocateBuffer result
protocol_text number (reply.LocateProtocol result) =
    returned_line interface_field number verb.LocateProtocol result
protocol_text number (reply.ProtocolsPerHandle result) =
    returned_line guids_field number verb.Protocols result
protocol_text number (reply.OpenProtocol result) = opened_line number result
protocol_text number (reply.CloseProtocol result) = result_line number verb.Close result
protocol_text number (reply.OpenProtocolInformation result) =
    returned_line pool_list_fields number verb.Information result
protocol_text number (reply.HandleProtocol result) =
    returned_line interface_field number verb.HandleProtocol result
protocol_text number (reply.ConnectController result) =
    returned_line events_field number verb.Connect result
protocol_text number (reply.DisconnectController result) = result_line number verb.Disconnect result
protocol_text number (reply.LocateDevicePath result) =
    returned_line path_fields number verb.Path result
protocol_text number answer = []

-- what is printed of a reply that carries these entries
abbrev pub reply_text : {A : Type 0} → ℕ → List Descriptor → Reply A → List ℕ
reply_text number entries (reply.AllocatePages (Ok placed)) =
    value_line number verb.Pages (codes "address") placed.address
reply_text number entries (reply.AllocatePages (Err status)) =
    status_line number verb.Pages (status_of status)
reply_text number entries (reply.FreePages result) = result_line number verb.FreePages result
reply_text number entries (reply.GetMemoryMap returned bytes) =
    map_text number entries returned returned.status
reply_text number entries (reply.AllocatePool (Ok block)) =
    value_line number verb.Pool (codes "address") block.0
reply_text number entries (reply.AllocatePool (Err status)) =
    status_line number verb.Pool (status_of status)
reply_text number entries (reply.FreePool result) = result_line number verb.FreePool result
reply_text number entries (reply.PoolRead status bytes) = read_line number bytes.items status
reply_text number entries (reply.PoolWrite result) = result_line number verb.Write result
reply_text number entries (reply.ExitBootServices result) = result_line number verb.Exit result
reply_text number entries answer = protocol_text number answer

-- what is printed of a listing of these entries
abbrev pub list_text : ℕ → List Descriptor → List ℕ
list_text number entries =
    reply_start number verb.List ++ codes " descriptors=" ++ decimal (length entries) ++ line_feed
    ++ flat_map descriptor_line entries
