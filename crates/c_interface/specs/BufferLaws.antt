-- The laws of what is printed of the services that fill a buffer of the caller's. Each is the
-- contract of a public function.
use Rattle.std.specs.Prelude.{◌≡◌, ◌==◌, ℕ, List, [], length, take, if◌then◌else◌}
use Rattle.page_ranges.specs.Statuses.{status_number}
use Rattle.page_ranges.specs.declared.statuses.Status.TheVariants.{Success}
use Rattle.boot_calls.specs.declared.calls.Call.{Call}
use Rattle.boot_calls.specs.declared.calls.Call.TheVariants as call
use Rattle.boot_trace.specs.TraceRuns.{Prints, asking}
use Rattle.c_interface.specs.declared.buffer_replies.MapFields.{MapFields}
use Rattle.c_interface.specs.declared.buffer_replies.ReadFields.{ReadFields}
use Rattle.c_interface.specs.BufferReplies.{PrintsMap, PrintsRead}
use Rattle.c_interface.specs.Buffers.{front_filled}
use Rattle.c_interface.specs.EfiCores.{EfiCoreValue, meanings}
use Rattle.c_interface.specs.Served.{AnswersMap, AnswersRead, MapPlaces}

-- the bytes of a buffer that a service with this status wrote to its front: as many as it says on
-- success, and else none
abbrev pub written_front : ℕ → ℕ → List ℕ → List ℕ
written_front status size buffer =
    if status == status_number Success then take size buffer else []

-- The caller hands in what a GetMemoryMap returned: its status, what is in the caller's variables
-- after it, and the bytes that were written to the caller's buffer.
pub record IsMapReply (f : MapFields) (answered : ℕ) (after : MapPlaces) (map : List ℕ) : Type 0
  where
    pub status : f.status ≡ answered
    pub size : f.size ≡ after.size
    pub key : f.key ≡ after.key
    pub descriptor_size : f.descriptor_size ≡ after.descriptor_size
    pub version : f.version ≡ after.version
    pub bytes : f.bytes.now ≡ written_front answered after.size map

-- The caller hands in what a read of a number of bytes returned: its status, and the bytes.
pub record IsReadReply (f : ReadFields) (answered count : ℕ) (read : List ℕ) : Type 0 where
  pub status : f.status ≡ answered
  pub bytes : f.bytes.now ≡ written_front answered count read

-- The caller's buffer and variable have a text that a run of a trace prints of this call, made on
-- this core, in the line with this number.
abbrev pub HasPrinted : {A : Type 0} → EfiCoreValue A → Call A → EfiCoreValue A → ℕ → List ℕ
    → List ℕ → ℕ → Type 0
HasPrinted {A = A} old c new number buffer new_buffer new_size =
    (text : List ℕ)
    × Prints A (meanings old) old.certifies number (asking c) old.core.state text new.core.state
    × (new_buffer ≡ front_filled text buffer) × (new_size ≡ length text)

-- What is printed of a GetMemoryMap of what the caller got is what a run of a trace prints of its
-- line, whatever the core that prints it.
abbrev pub PrintedMapLaw : Type 0 → Type 0
PrintedMapLaw A =
    (old new core : EfiCoreValue A) (map new_map : List ℕ) (before after : MapPlaces) (status : ℕ)
    (f : MapFields) (buffer new_buffer : List ℕ) (size new_size : ℕ) →
    AnswersMap old map before status new_map after new → IsMapReply f status after new_map
    → PrintsMap core f buffer size (status_number Success) new_buffer new_size
    → HasPrinted old (call.GetMemoryMap (length map)) new f.number buffer new_buffer new_size

-- The same of a read of the pool.
abbrev pub PrintedReadLaw : Type 0 → Type 0
PrintedReadLaw A =
    (old new core : EfiCoreValue A) (address : ℕ) (bytes new_bytes : List ℕ) (status : ℕ)
    (f : ReadFields) (buffer new_buffer : List ℕ) (size new_size : ℕ) →
    AnswersRead old address bytes status new_bytes new
    → IsReadReply f status (length bytes) new_bytes
    → PrintsRead core f buffer size (status_number Success) new_buffer new_size
    → HasPrinted old (call.PoolRead address (length bytes)) new f.number buffer new_buffer new_size
