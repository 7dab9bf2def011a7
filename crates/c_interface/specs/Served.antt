-- What a call through C does.
use Rattle.std.specs.Prelude.{◌≡◌, ◌⊎◌, ℕ, ◌*◌, ◌<◌, ◌≤◌, min, List, length, map, Option, Some, None, Ok, Err}
use Rattle.page_ranges.specs.Statuses.{status_number}
use Rattle.page_ranges.specs.declared.statuses.Status.{Status}
use Rattle.page_ranges.specs.declared.statuses.Status.TheVariants.{Success, BufferTooSmall, NotFound, OutOfResources}
use Rattle.map_keys.specs.MapReplies.{descriptor_version}
use Rattle.map_keys.specs.Records.{record_size}
use Rattle.map_keys.specs.declared.memory_maps.MapReply.{MapReply}
use Rattle.boot_calls.specs.declared.calls.Call.{Call}
use Rattle.boot_replies.specs.declared.replies.Reply.{Reply}
use Rattle.boot_replies.specs.declared.replies.Reply.TheVariants as reply
use Rattle.boot_replies.specs.Certified.{certified}
use Rattle.boot_core.specs.Steps.{MapStep, ReadStep, Step}
use Rattle.boot_core.specs.Machines.{kept_map}
use Rattle.c_interface.specs.declared.efi_core.LastBlock.{LastBlock}
use Rattle.c_interface.specs.declared.efi_core.LastBlock.TheVariants as block
use Rattle.c_machines.specs.declared.guids.Guid.{Guid}
use Rattle.c_machines.specs.Guids.{standard_guid}
use Rattle.guid_handles.specs.HandleChanges.{max_handles}
use Rattle.c_interface.specs.Buffers.{front_filled}
use Rattle.c_interface.specs.EfiCores.{EfiCoreValue, LeavesBlock, forgotten, meanings}
use Rattle.c_interface.specs.LastCalls.{Left, left_of, nothing_left}
use Rattle.c_interface.specs.Replies.{status_in, number_in, numbers_in, returned_or}

-- the status of a call that is one too many: EFI_ABORTED
abbrev pub aborted : ℕ
aborted = 0x8000000000000015

-- A call is a step of the core with this reply, after which this is left, and the block of its
-- certificate.
pub record ServesLeaving {A : Type 0} (old : EfiCoreValue A) (c : Call A) (answer : Reply A)
    (left : Left A) (new : EfiCoreValue A) : Type 0 where
  pub step : Step (meanings old) old.core.state c answer new.core.state
  pub given : new.core.given ≡ old.core.given
  pub certifies : new.certifies ≡ old.certifies
  pub keeps_replies : new.keeps_replies ≡ old.keeps_replies
  pub block : LeavesBlock old.certifies (kept_map old.certifies old.core.state c)
      (certified old.core.state.parts.book.granule c answer) new.block
  pub last : new.last ≡ left

-- A call is served: its events are left to be asked for, and its reply where replies are kept.
abbrev pub Serves : {A : Type 0} → EfiCoreValue A → Call A → Reply A → EfiCoreValue A → Type 0
Serves old c answer new = ServesLeaving old c answer (left_of old.keeps_replies answer) new

-- A call is made, and its reply is not left yet.
abbrev pub Makes : {A : Type 0} → EfiCoreValue A → Call A → Reply A → EfiCoreValue A → Type 0
Makes old c answer new = ServesLeaving old c answer nothing_left new

-- No call can be made any more: the core is as it was, with nothing left of the call before.
pub record IsSpent {A : Type 0} (old new : EfiCoreValue A) : Type 0 where
  pub spent : old.core.state.calls_left ≡ 0
  pub core : new ≡ forgotten old

-- The status of a call, what it writes to the caller's variables, and how it leaves the core: it is
-- a step of the core and the status is that of the reply; or no call could be made, and the
-- variables are as they were.
abbrev pub Answers : {A : Type 0} → EfiCoreValue A → Call A → ℕ → (Reply A → Type 0) → Type 0
    → EfiCoreValue A → Type 0
Answers {A = A} old c status Gives Keeps new =
    ((answer : Reply A) × Serves old c answer new × (status ≡ status_number (status_in answer))
    × Gives answer) ⊎ (IsSpent old new × (status ≡ aborted) × Keeps)

-- a call that returns its status alone
abbrev pub AnswersStatus : {A : Type 0} → EfiCoreValue A → Call A → ℕ → EfiCoreValue A → Type 0
AnswersStatus old c status new = Answers old c status (λ answer. Unit {0}) (Unit {0}) new

-- a call that returns a number in the caller's variable, where it succeeds with one
abbrev pub AnswersNumber : {A : Type 0} → EfiCoreValue A → Call A → ℕ → ℕ → ℕ → EfiCoreValue A
    → Type 0
AnswersNumber old c before status after new =
    Answers old c status (λ answer. after ≡ returned_or before (number_in answer))
    (after ≡ before) new

-- a call that returns two numbers in the caller's variables, where it succeeds
abbrev pub AnswersNumbers : {A : Type 0} → EfiCoreValue A → Call A → ℕ × ℕ → ℕ → ℕ × ℕ
    → EfiCoreValue A → Type 0
AnswersNumbers old c before status after new =
    Answers old c status (λ answer. after ≡ returned_or before (numbers_in answer))
    (after ≡ before) new

-- ---- lists in the caller's buffers

-- the bytes of a buffer for a number of handles, 8 for each, as far as that many can be live
abbrev pub handle_bytes : ℕ → ℕ
handle_bytes room = min room max_handles * 8

-- the bytes that a status says a list takes
abbrev pub returned_size : Status → ℕ → Option ℕ
returned_size Success size = Some size
returned_size BufferTooSmall size = Some size
returned_size status size = None

-- LocateHandle writes the bytes that the handles take to the caller's variable, and the handles to
-- the caller's buffer.
abbrev pub ReturnsHandles : {A : Type 0} → ℕ → List ℕ → ℕ → List ℕ → Reply A → Type 0
ReturnsHandles size buffer new_size new_buffer (reply.LocateHandle returned) =
    (new_size ≡ returned_or size (returned_size returned.status returned.size))
    × (new_buffer ≡ front_filled returned.handles.items buffer)
ReturnsHandles size buffer new_size new_buffer answer = ⊥

-- LocateHandle through C
abbrev pub AnswersHandles : {A : Type 0} → EfiCoreValue A → Call A → ℕ → List ℕ → ℕ → ℕ → List ℕ
    → EfiCoreValue A → Type 0
AnswersHandles old c size buffer status new_size new_buffer new =
    Answers old c status (ReturnsHandles size buffer new_size new_buffer)
    ((new_size ≡ size) × (new_buffer ≡ buffer)) new

-- ProtocolsPerHandle: its status, how many GUIDs there are in the caller's variable, and the GUIDs
-- in the caller's buffer. A buffer with no room for all of them is too small, and is left.
abbrev pub ReturnsGuids : {A : Type 0} → ℕ → List Guid → ℕ → ℕ → List Guid → Reply A → Type 0
ReturnsGuids count buffer status new_count new_buffer (reply.ProtocolsPerHandle (Ok guids)) =
    (new_count ≡ length guids.items)
    × (((length guids.items ≤ length buffer) × (status ≡ status_number Success)
    × (new_buffer ≡ front_filled (map standard_guid guids.items) buffer))
    ⊎ ((length buffer < length guids.items) × (status ≡ status_number BufferTooSmall)
    × (new_buffer ≡ buffer)))
ReturnsGuids count buffer status new_count new_buffer (reply.ProtocolsPerHandle (Err refusal)) =
    (status ≡ status_number refusal) × (new_count ≡ count) × (new_buffer ≡ buffer)
ReturnsGuids count buffer status new_count new_buffer answer = ⊥

-- ProtocolsPerHandle through C
abbrev pub AnswersGuids : {A : Type 0} → EfiCoreValue A → Call A → ℕ → List Guid → ℕ → ℕ
    → List Guid → EfiCoreValue A → Type 0
AnswersGuids {A = A} old c count buffer status new_count new_buffer new =
    ((answer : Reply A) × Serves old c answer new
    × ReturnsGuids count buffer status new_count new_buffer answer)
    ⊎ (IsSpent old new × (status ≡ aborted) × (new_count ≡ count) × (new_buffer ≡ buffer))

-- the count is of too many interfaces to be installed at once
abbrev pub too_many : ℕ
too_many = 17

-- ---- bytes in the caller's buffers

-- the caller's variables that GetMemoryMap fills beside the buffer
pub record MapPlaces : Type 0 where
  pub size : ℕ
  pub key : ℕ
  pub descriptor_size : ℕ
  pub version : ℕ

-- What GetMemoryMap writes to these variables: where the buffer is too small all but the key, so
-- that a caller can make a larger one.
abbrev pub returned_places : MapReply → Status → MapPlaces → MapPlaces
returned_places returned Success before =
    record {
      size = returned.size;
      key = returned.key;
      descriptor_size = record_size;
      version = descriptor_version;
    }
returned_places returned BufferTooSmall before =
    record {
      size = returned.size;
      key = before.key;
      descriptor_size = record_size;
      version = descriptor_version;
    }
returned_places returned status before = before

-- what a call leaves that fills a buffer of the caller's: neither a reply nor a block to be asked
-- for
pub record LeavesNothing {A : Type 0} (old new : EfiCoreValue A) : Type 0 where
  pub given : new.core.given ≡ old.core.given
  pub certifies : new.certifies ≡ old.certifies
  pub keeps_replies : new.keeps_replies ≡ old.keeps_replies
  pub last : new.last ≡ nothing_left
  pub block : new.block ≡ block.Nothing

-- GetMemoryMap with a buffer of the caller's
abbrev pub AnswersMap : {A : Type 0} → EfiCoreValue A → List ℕ → MapPlaces → ℕ → List ℕ → MapPlaces
    → EfiCoreValue A → Type 0
AnswersMap old buffer before status after_buffer after new =
    ((returned : MapReply) × MapStep old.core.state buffer returned after_buffer new.core.state
    × LeavesNothing old new × (status ≡ status_number returned.status)
    × (after ≡ returned_places returned returned.status before))
    ⊎ (IsSpent old new × (status ≡ aborted) × (after_buffer ≡ buffer) × (after ≡ before))

-- a read of the pool's bytes into a buffer of the caller's
abbrev pub AnswersRead : {A : Type 0} → EfiCoreValue A → ℕ → List ℕ → ℕ → List ℕ → EfiCoreValue A
    → Type 0
AnswersRead old address buffer status after new =
    ((returned : Status) × ReadStep old.core.state address buffer returned after new.core.state
    × LeavesNothing old new × (status ≡ status_number returned))
    ⊎ (IsSpent old new × (status ≡ aborted) × (after ≡ buffer))

-- ---- what is asked for after a call

-- The block of the last call in the caller's buffer, its bytes in the caller's variable; where the
-- buffer is too small the bytes that are needed, and where there is no block neither.
abbrev pub ReturnsBlock : {A : Type 0} → LastBlock A → List ℕ → ℕ → ℕ → List ℕ → ℕ → Type 0
ReturnsBlock block.Nothing buffer size status new_buffer new_size =
    (status ≡ status_number NotFound) × (new_buffer ≡ buffer) × (new_size ≡ size)
ReturnsBlock block.OutOfMemory buffer size status new_buffer new_size =
    (status ≡ status_number OutOfResources) × (new_buffer ≡ buffer) × (new_size ≡ size)
ReturnsBlock (block.Text text) buffer size status new_buffer new_size =
    (new_size ≡ length text.items)
    × (((length text.items ≤ length buffer) × (status ≡ status_number Success)
    × (new_buffer ≡ front_filled text.items buffer))
    ⊎ ((length buffer < length text.items) × (status ≡ status_number BufferTooSmall)
    × (new_buffer ≡ buffer)))
