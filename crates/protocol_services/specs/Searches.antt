-- The searches for handles, and for what is on a handle.
use Rattle.std.specs.Prelude.{◌≡◌, ℕ, ◌*◌, ◌<◌, ◌≤◌, ◌==◌, cond, true, false, List, [], ◌∷◌, map, length, Option, Some, None, Result, Ok, Err, Vec}
use Rattle.std.specs.Option.{option_map, option_and_then}
use Rattle.page_ranges.specs.declared.statuses.Status.{Status}
use Rattle.page_ranges.specs.declared.statuses.Status.TheVariants.{Success, InvalidParameter, NotFound, BufferTooSmall, OutOfResources}
use Rattle.guid_handles.specs.HandleTables.{numbers, holders_of, guids_on, is_live, value_at}
use Rattle.protocol_notify.specs.Registrations.{is_for, registration_of, next_handle, taken}
use Rattle.boot_calls.specs.declared.replies.LocateReply.{LocateReply}
use Rattle.protocol_services.specs.Lists.{Lists}

-- ---- LocateHandle

-- the kinds of search: AllHandles, ByRegisterNotify and ByProtocol
abbrev pub all_handles : ℕ
all_handles = 0

abbrev pub by_register_notify : ℕ
by_register_notify = 1

abbrev pub by_protocol : ℕ
by_protocol = 2

-- one handle or none as a list
abbrev pub listed : Option ℕ → List ℕ
listed None = []
listed (Some n) = n ∷ []

-- the handle that is next for a key, in a list; None for a key that was never given
abbrev pub next_listed : Lists → ℕ → Option (List ℕ)
next_listed l key =
    option_map (λ r. listed (next_handle l.handles l.registrations key))
    (registration_of l.registrations key)

-- the handles that a search is for, ascending; None where there is no such search, or no such key
abbrev pub found_handles : Lists → ℕ → List ℕ → ℕ → Option (List ℕ)
found_handles l search guid key =
    cond (search == all_handles) (Some (numbers l.handles))
    (cond (search == by_register_notify) (next_listed l key)
    (cond (search == by_protocol) (Some (holders_of l.handles guid)) None))

-- the lists once the handle that is next for a key is taken
abbrev pub once_taken : ℕ → Lists → Lists
once_taken key l = record l { registrations = map (taken l.handles key) l.registrations }

-- the lists once the handles of a search are returned: a search by a key takes its handle
abbrev pub once_found : ℕ → ℕ → Lists → Lists
once_found search key l = cond (search == by_register_notify) (once_taken key l) l

-- A handle takes 8 bytes of a buffer.
abbrev pub handles_size : List ℕ → ℕ
handles_size handles = 8 * length handles

-- What a search returns of its handles, for a buffer of a size in bytes: status, size in bytes,
-- handles.
abbrev pub ReturnsHandles : Option (List ℕ) → ℕ → Status → ℕ → List ℕ → Type 0
ReturnsHandles found room Success size handles =
    (found ≡ Some handles) × (0 < length handles) × (size ≡ handles_size handles) × (size ≤ room)
ReturnsHandles found room InvalidParameter size handles =
    (found ≡ None) × (size ≡ 0) × (handles ≡ [])
ReturnsHandles found room NotFound size handles = (found ≡ Some []) × (size ≡ 0) × (handles ≡ [])
ReturnsHandles found room BufferTooSmall size handles =
    (whole : List ℕ) × (found ≡ Some whole) × (size ≡ handles_size whole) × (room < size)
    × (handles ≡ [])
ReturnsHandles found room OutOfResources size handles =
    (whole : List ℕ) × (found ≡ Some whole) × (0 < length whole) × (handles_size whole ≤ room)
    × (size ≡ 0) × (handles ≡ [])
ReturnsHandles found room status size handles = ⊥

-- what a search returns
abbrev pub FindsHandles : {A : Type 0} → Lists → ℕ → List ℕ → ℕ → ℕ → LocateReply A → Type 0
FindsHandles l search guid key room returned =
    ReturnsHandles
    (found_handles l search guid key) room returned.status returned.size returned.handles.items

-- the lists after a search with this status
abbrev pub after_search : Status → ℕ → ℕ → Lists → Lists
after_search Success search key l = once_found search key l
after_search status search key l = l

-- What LocateHandle returns, and the lists after it.
abbrev pub LocatesHandles : {A : Type 0} → Lists → ℕ → List ℕ → ℕ → ℕ → LocateReply A → Lists
    → Type 0
LocatesHandles l search guid key room returned new =
    FindsHandles l search guid key room returned × (new ≡ after_search returned.status search key l)

-- ---- LocateProtocol

-- the first of some handles, if there is one
abbrev pub first_handle : List ℕ → Option ℕ
first_handle [] = None
first_handle (n ∷ ns) = Some n

-- the handle that is next for a key of a GUID; None for a key that was never given for it
abbrev pub next_of_guid : Lists → List ℕ → ℕ → Option (Option ℕ)
next_of_guid l guid key =
    option_and_then
    (λ r. cond (is_for guid r) (Some (next_handle l.handles l.registrations key)) None)
    (registration_of l.registrations key)

-- the handle that LocateProtocol is for: without a key, which is 0, the lowest that carries the
-- GUID, else the next for the key
abbrev pub located_handle : Lists → List ℕ → ℕ → Option (Option ℕ)
located_handle l guid key =
    cond (key == 0) (Some (first_handle (holders_of l.handles guid))) (next_of_guid l guid key)

-- What LocateProtocol returns, and the lists after it: the value of the interface, or a refusal
-- that leaves the lists.
abbrev pub LocatesProtocol : Lists → List ℕ → ℕ → Result ℕ Status → Lists → Type 0
LocatesProtocol l guid key (Ok value) new =
    (n : ℕ) × (located_handle l guid key ≡ Some (Some n)) × (value_at l.handles n guid ≡ Some value)
    × (new ≡ cond (key == 0) l (once_taken key l))
LocatesProtocol l guid key (Err InvalidParameter) new =
    (located_handle l guid key ≡ None) × (new ≡ l)
LocatesProtocol l guid key (Err NotFound) new = (located_handle l guid key ≡ Some None) × (new ≡ l)
LocatesProtocol l guid key (Err status) new = ⊥

-- ---- ProtocolsPerHandle

-- what ProtocolsPerHandle returns: the GUIDs on a live handle, in order of installation
abbrev pub ReturnsProtocols : {A : Type 0} → Lists → ℕ → Result (Vec (List ℕ) A) Status → Type 0
ReturnsProtocols l handle (Ok guids) =
    (is_live l.handles handle ≡ true) × (guids.items ≡ guids_on l.handles handle)
ReturnsProtocols l handle (Err InvalidParameter) = is_live l.handles handle ≡ false
ReturnsProtocols l handle (Err OutOfResources) = is_live l.handles handle ≡ true
ReturnsProtocols l handle (Err status) = ⊥
