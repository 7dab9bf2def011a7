-- The entries that a reply with the memory map carries.
use Rattle.std.proofs.Common.{◌≡◌, ℕ, Bool, true, false, cond, leb, List, [], Vec, ap, sym, ◌∙◌, inl, inr}
use Rattle.std.specs.List.{AllByRecursion}
use Rattle.page_ranges.specs.declared.ranges.Descriptor.{Descriptor}
use Rattle.page_ranges.specs.declared.statuses.Status.TheVariants.{Success, BufferTooSmall, Unsupported}
use Rattle.page_ranges.specs.MemoryMap.{memory_map}
use Rattle.map_keys.specs.declared.memory_maps.MapReply.{MapReply}
use Rattle.map_keys.specs.MapReplies.{descriptor_version, map_size}
use Rattle.map_keys.specs.Records.{IsRecordEntry, record_size, records}
use Rattle.map_keys.proofs.RecordLists.{same_entries}
use Rattle.driver_connect.specs.Drivers.{Meaning}
use Rattle.boot_calls.specs.declared.calls.Call.TheVariants as call
use Rattle.boot_replies.specs.declared.replies.Reply.TheVariants as reply
use Rattle.boot_core.specs.Machines.{Parts, State}
use Rattle.boot_core.specs.MapCalls.{AnswersMap, refused_map}
use Rattle.boot_core.specs.Steps.{WhileOpen, Step}
use Rattle.reply_texts.specs.CallText.{CarriesEntries, HoldsEntries}

held : (bytes : List ℕ) (entries ds : List Descriptor) → AllByRecursion IsRecordEntry ds → bytes ≡ records ds → HoldsEntries bytes entries → entries ≡ ds
held bytes entries ds fit e (inl reads) = same_entries entries ds reads.0 fit (reads.1 ∙ e)
held bytes entries ds fit e (inr none) = absurd (none.0 ds fit (sym e))

all_used : (fits : Bool) (size key : ℕ) (returned : MapReply) (bytes map : List ℕ) → returned ≡ cond fits (record { status = Success; size = size; key = key; descriptor_size = record_size; version = descriptor_version }) (record { status = BufferTooSmall; size = size; key = 0; descriptor_size = 0; version = 0 }) →
    bytes ≡ cond fits map [] → returned.status ≡ Success → bytes ≡ map
all_used true size key returned bytes map e used success = used
all_used false size key returned bytes map e used success = let short = ap (λ (r : MapReply). r.status) e in absurd (cc)

whole_map : (exited : Bool) (old new : Parts) (size : ℕ) (returned : MapReply) (bytes : List ℕ) → WhileOpen exited old new (AnswersMap old.book size returned bytes × (new ≡ old)) ((returned ≡ refused_map Unsupported) × (bytes ≡ [])) → returned.status ≡ Success → bytes ≡ records (memory_map old.book.memory)
whole_map true old new size returned bytes h s = let refused = ap (λ (r : MapReply). r.status) h.0.0 in absurd (cc)
whole_map false old new size returned bytes (inl h, same) s = all_used (leb (map_size old.book) size) (map_size old.book) old.book.key returned bytes (records (memory_map old.book.memory)) h.0 h.1 s
whole_map false old new size returned bytes (inr h, same) s = let refused = ap (λ (r : MapReply). r.status) h.2 in absurd (cc)

-- the bytes that a successful GetMemoryMap returns are the records of the memory map
pub returned_bytes : {A : Type 0} (drivers : List Meaning) (old : State) (size : ℕ) (returned : MapReply) (bytes : Vec ℕ A) (new : State) → Step drivers old (call.GetMemoryMap size) (reply.GetMemoryMap returned bytes) new → returned.status ≡ Success → bytes.items ≡ records (memory_map old.parts.book.memory)
returned_bytes {A = A} drivers old size returned bytes new step success =
    let (returned', bytes', e, h) = step.answers in
    let same_returned : returned ≡ returned' = cc in
    let same_bytes : bytes ≡ bytes' = cc in
    ap (λ (v : Vec ℕ A). v.items) same_bytes ∙ whole_map old.exited old.parts new.parts size returned' bytes'.items h (ap (λ (r : MapReply). r.status) (sym same_returned) ∙ success)

pub carried : {A : Type 0} (drivers : List Meaning) (old : State) (size : ℕ) (returned : MapReply) (bytes : Vec ℕ A) (new : State) (entries : List Descriptor) → AllByRecursion IsRecordEntry (memory_map old.parts.book.memory) → Step drivers old (call.GetMemoryMap size) (reply.GetMemoryMap returned bytes) new → returned.status ≡ Success → CarriesEntries (reply.GetMemoryMap returned bytes) entries → entries ≡ memory_map old.parts.book.memory
carried drivers old size returned bytes new entries fit step success holds = held bytes.items entries (memory_map old.parts.book.memory) fit (returned_bytes drivers old size returned bytes new step success) holds
