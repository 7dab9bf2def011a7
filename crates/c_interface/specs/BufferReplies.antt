-- What is printed of the services that fill a buffer of the caller's, of what the caller got.
use Rattle.std.specs.Prelude.{◌≡◌, ◌⊎◌, ◌==◌, ℕ, List, [], ◌∷◌, Option, Some, None, Vec, find}
use Rattle.page_ranges.specs.Statuses.{status_number}
use Rattle.page_ranges.specs.declared.statuses.Status.{Status}
use Rattle.page_ranges.specs.declared.statuses.Status.TheVariants.{Success, InvalidParameter, Unsupported, BufferTooSmall, DeviceError, OutOfResources, NotFound, AccessDenied, AlreadyStarted}
use Rattle.boot_replies.specs.declared.replies.Reply.{Reply}
use Rattle.boot_replies.specs.declared.replies.Reply.TheVariants as reply
use Rattle.c_interface.specs.declared.buffer_replies.MapFields.{MapFields}
use Rattle.c_interface.specs.declared.buffer_replies.ReadFields.{ReadFields}
use Rattle.c_interface.specs.declared.efi_core.LastBlock.{LastBlock}
use Rattle.c_interface.specs.declared.efi_core.LastBlock.TheVariants as block
use Rattle.c_interface.specs.EfiCores.{EfiCoreValue}
use Rattle.c_interface.specs.ReplyLines.{PrintsReply}
use Rattle.c_interface.specs.Served.{ReturnsBlock}

-- the statuses that services return
abbrev pub statuses : List Status
statuses = Success ∷ InvalidParameter ∷ Unsupported ∷ BufferTooSmall ∷ DeviceError ∷ OutOfResources
    ∷ NotFound ∷ AccessDenied ∷ AlreadyStarted ∷ []

-- the status with a number
abbrev pub status_with : ℕ → Option Status
status_with number = find (λ s. status_number s == number) statuses

-- what is printed of a reply under a number is put in the caller's buffer as a block is
abbrev pub ReturnsText : {A : Type 0} → ℕ → Reply A → List ℕ → ℕ → ℕ → List ℕ → ℕ → Type 0
ReturnsText {A = A} number answer buffer size status new_buffer new_size =
    (printed : LastBlock A) × PrintsReply number answer block.Nothing printed
    × ReturnsBlock printed buffer size status new_buffer new_size

-- The same of a reply that has these bytes and a status. INVALID_PARAMETER: there is no such status.
-- Memory may run out for the bytes.
abbrev pub ReturnsTextOf : {A : Type 0} → Option Status → List ℕ → (Status → Vec ℕ A → Reply A) → ℕ
    → List ℕ → ℕ → ℕ → List ℕ → ℕ → Type 0
ReturnsTextOf None bytes answer number buffer size status new_buffer new_size =
    (status ≡ status_number InvalidParameter) × (new_buffer ≡ buffer) × (new_size ≡ size)
ReturnsTextOf {A = A} (Some s) bytes answer number buffer size status new_buffer new_size =
    ((copied : Vec ℕ A) × (copied.items ≡ bytes)
    × ReturnsText number (answer s copied) buffer size status new_buffer new_size)
    ⊎ ((status ≡ status_number OutOfResources) × (new_buffer ≡ buffer) × (new_size ≡ size))

-- the reply of a GetMemoryMap that returned these fields, with a status and bytes
abbrev pub map_answer : {A : Type 0} → MapFields → Status → Vec ℕ A → Reply A
map_answer f s bytes =
    reply.GetMemoryMap
    (record {
      status = s;
      size = f.size;
      key = f.key;
      descriptor_size = f.descriptor_size;
      version = f.version;
    })
    bytes

-- of a GetMemoryMap that returned these fields
abbrev pub PrintsMap : {A : Type 0} → EfiCoreValue A → MapFields → List ℕ → ℕ → ℕ → List ℕ → ℕ
    → Type 0
PrintsMap {A = A} core f buffer size status new_buffer new_size =
    ReturnsTextOf {A = A} (status_with f.status) f.bytes.now (λ s bytes. map_answer f s bytes)
    f.number buffer size status new_buffer new_size

-- of a read of the pool that returned these fields
abbrev pub PrintsRead : {A : Type 0} → EfiCoreValue A → ReadFields → List ℕ → ℕ → ℕ → List ℕ → ℕ
    → Type 0
PrintsRead {A = A} core f buffer size status new_buffer new_size =
    ReturnsTextOf {A = A} (status_with f.status) f.bytes.now (λ s bytes. reply.PoolRead s bytes)
    f.number buffer size status new_buffer new_size
