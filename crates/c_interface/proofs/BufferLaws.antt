-- What is printed of a service that fills a buffer of the caller's is what a run of a trace prints.
use Rattle.std.proofs.Common.{◌≡◌, ◌∙◌, ℕ, Bool, true, false, cond, leb, List, [], ◌++◌, length, take, flat_map, Option, Some, None, Vec, inl, inr, refl, sym, ap, subst, append-nil}
use Rattle.page_ranges.specs.declared.ranges.Descriptor.{Descriptor}
use Rattle.page_ranges.specs.declared.statuses.Status.{Status}
use Rattle.page_ranges.specs.declared.statuses.Status.TheVariants.{Success, InvalidParameter, Unsupported, BufferTooSmall, DeviceError, OutOfResources, NotFound, AccessDenied, AlreadyStarted}
use Rattle.page_ranges.specs.Statuses.{status_number}
use Rattle.page_ranges.specs.MemoryMap.{memory_map}
use Rattle.map_keys.specs.declared.memory_maps.MapReply.{MapReply}
use Rattle.map_keys.specs.MapReplies.{descriptor_version, map_size, map_reply, buffer_with_map}
use Rattle.map_keys.specs.Records.{record_size}
use Rattle.trace_verbs.specs.declared.verbs.Verb.TheVariants as verb
use Rattle.boot_calls.specs.declared.calls.Call.TheVariants as call
use Rattle.boot_replies.specs.declared.replies.Reply.{Reply}
use Rattle.boot_replies.specs.declared.replies.Reply.TheVariants as reply
use Rattle.boot_replies.specs.Certified.{map_before}
use Rattle.boot_core.specs.Laws.{read_size, used_size}
use Rattle.boot_core.specs.Machines.{Parts}
use Rattle.boot_core.specs.MapCalls.{refused_map}
use Rattle.boot_core.specs.Steps.{WhileOpen}
use Rattle.boot_core.proofs.MapReplies.{map_step}
use Rattle.boot_core.proofs.ReadReplies.{read_step}
use Rattle.reply_texts.specs.CallText.{CarriesEntries, PrintsCall}
use Rattle.reply_texts.specs.PrintedText.{descriptor_line, map_line, map_text, reply_text, size_line}
use Rattle.reply_texts.proofs.CallTexts.{prints_call}
use Rattle.c_interface.specs.declared.buffer_replies.MapFields.{MapFields}
use Rattle.c_interface.specs.declared.buffer_replies.ReadFields.{ReadFields}
use Rattle.c_interface.specs.declared.efi_core.LastBlock.{LastBlock}
use Rattle.c_interface.specs.declared.efi_core.LastBlock.TheVariants as block
use Rattle.c_interface.specs.BufferLaws.{HasPrinted, IsMapReply, IsReadReply, written_front}
use Rattle.c_interface.specs.BufferReplies.{PrintsMap, PrintsRead, ReturnsTextOf, map_answer, status_with}
use Rattle.c_interface.specs.Buffers.{front_filled}
use Rattle.c_interface.specs.EfiCores.{EfiCoreValue, meanings}
use Rattle.c_interface.specs.ReplyLines.{PrintsReply}
use Rattle.c_interface.specs.Served.{AnswersMap, AnswersRead, MapPlaces, ReturnsBlock, returned_places}

-- ---- statuses

-- the status with the number of a status
found_status : (s : Status) → status_with (status_number s) ≡ Some s
found_status Success = refl
found_status InvalidParameter = refl
found_status Unsupported = refl
found_status BufferTooSmall = refl
found_status DeviceError = refl
found_status OutOfResources = refl
found_status NotFound = refl
found_status AccessDenied = refl
found_status AlreadyStarted = refl

-- two statuses with one number are the same
same_status : (s t : Status) → status_number s ≡ status_number t → s ≡ t
same_status s t e = let found : Some s ≡ Some t = sym (found_status s) ∙ ap (λ (n : ℕ). status_with n) e ∙ found_status t in cc

-- ---- texts that were put in the caller's buffer

-- the text of the reply with this status and some vector of these bytes
abbrev HasText : {A : Type 0} → Status → List ℕ → (Status → Vec ℕ A → Reply A) → ℕ → List ℕ → List ℕ → ℕ → Type 0
HasText {A = A} s bytes answer number buffer new_buffer new_size =
    (copied : Vec ℕ A) × (copied.items ≡ bytes) × (entries : List Descriptor) × CarriesEntries (answer s copied) entries × (new_buffer ≡ front_filled (reply_text number entries (answer s copied)) buffer) × (new_size ≡ length (reply_text number entries (answer s copied)))

placed : {A : Type 0} (s : Status) (bytes : List ℕ) (copied : Vec ℕ A) (answer : Status → Vec ℕ A → Reply A) (number : ℕ) (printed : LastBlock A) (buffer : List ℕ) (size : ℕ) (new_buffer : List ℕ) (new_size : ℕ) → copied.items ≡ bytes → PrintsReply number (answer s copied) block.Nothing printed → ReturnsBlock printed buffer size (status_number Success) new_buffer new_size → HasText s bytes answer number buffer new_buffer new_size
placed s bytes copied answer number block.Nothing buffer size new_buffer new_size same prints r = let wrong = same_status Success NotFound r.0 in absurd (cc)
placed s bytes copied answer number block.OutOfMemory buffer size new_buffer new_size same prints r = let wrong = same_status Success OutOfResources r.0 in absurd (cc)
placed s bytes copied answer number (block.Text text) buffer size new_buffer new_size same (entries, carries, e) (long, inl (fits, done, written)) =
    (copied, same, entries, carries, written ∙ ap (λ (t : List ℕ). front_filled t buffer) e, long ∙ ap (λ (t : List ℕ). length t) e)
placed s bytes copied answer number (block.Text text) buffer size new_buffer new_size same prints (long, inr (short, other, kept)) = let wrong = same_status Success BufferTooSmall other in absurd (cc)

text_placed : {A : Type 0} (wanted : Option Status) (s : Status) (bytes : List ℕ) (answer : Status → Vec ℕ A → Reply A) (number : ℕ) (buffer : List ℕ) (size : ℕ) (new_buffer : List ℕ) (new_size : ℕ) → wanted ≡ Some s → ReturnsTextOf wanted bytes answer number buffer size (status_number Success) new_buffer new_size → HasText s bytes answer number buffer new_buffer new_size
text_placed None s bytes answer number buffer size new_buffer new_size e p = absurd cc
text_placed (Some t) s bytes answer number buffer size new_buffer new_size e (inl (copied, same, (printed, prints, returns))) =
    let is : t ≡ s = cc in
    subst (λ (u : Status). HasText u bytes answer number buffer new_buffer new_size) is (placed t bytes copied answer number printed buffer size new_buffer new_size same prints returns)
text_placed (Some t) s bytes answer number buffer size new_buffer new_size e (inr (refused, kept, same_size)) = let wrong = same_status Success OutOfResources refused in absurd (cc)

-- there is none of a status that no service returns
no_text : {A : Type 0} (wanted : Option Status) (bytes : List ℕ) (answer : Status → Vec ℕ A → Reply A) (number : ℕ) (buffer : List ℕ) (size : ℕ) (new_buffer : List ℕ) (new_size : ℕ) → wanted ≡ None → ReturnsTextOf wanted bytes answer number buffer size (status_number Success) new_buffer new_size → ⊥
no_text None bytes answer number buffer size new_buffer new_size e p = let wrong = same_status Success InvalidParameter p.0 in absurd (cc)
no_text (Some s) bytes answer number buffer size new_buffer new_size e p = absurd cc

-- ---- GetMemoryMap

-- a successful reply has the size of a record and the version
fields_if : (fits : Bool) (size key : ℕ) (returned : MapReply) → returned ≡ cond fits (record { status = Success; size = size; key = key; descriptor_size = record_size; version = descriptor_version }) (record { status = BufferTooSmall; size = size; key = 0; descriptor_size = 0; version = 0 }) → returned.status ≡ Success → (returned.descriptor_size ≡ record_size) × (returned.version ≡ descriptor_version)
fields_if true size key returned e s = (ap (λ (r : MapReply). r.descriptor_size) e, ap (λ (r : MapReply). r.version) e)
fields_if false size key returned e s = let short = ap (λ (r : MapReply). r.status) e in absurd (cc)

returned_fields : (exited : Bool) (old new : Parts) (buffer : List ℕ) (returned : MapReply) (after : List ℕ) → WhileOpen exited old new ((returned ≡ map_reply old.book (length buffer)) × (after ≡ buffer_with_map old.book buffer) × (new ≡ old)) ((returned ≡ refused_map Unsupported) × (after ≡ buffer)) → returned.status ≡ Success → (returned.descriptor_size ≡ record_size) × (returned.version ≡ descriptor_version)
returned_fields true old new buffer returned after h s = let refused = ap (λ (r : MapReply). r.status) h.0.0 in absurd (cc)
returned_fields false old new buffer returned after h s = fields_if (leb (map_size old.book) (length buffer)) (map_size old.book) old.book.key returned h.0 s

-- the line of a map goes by four numbers
same_line : (number : ℕ) (s : Status) (size key step version : ℕ) (returned : MapReply) → size ≡ returned.size → key ≡ returned.key → step ≡ returned.descriptor_size → version ≡ returned.version →
    map_line number (record { status = s; size = size; key = key; descriptor_size = step; version = version }) ≡ map_line number returned
same_line number s size key step version returned es ek ed ev =
    ap (λ (n : ℕ). map_line number (record { status = s; size = n; key = key; descriptor_size = step; version = version })) es
    ∙ ap (λ (n : ℕ). map_line number (record { status = s; size = returned.size; key = n; descriptor_size = step; version = version })) ek
    ∙ ap (λ (n : ℕ). map_line number (record { status = s; size = returned.size; key = returned.key; descriptor_size = n; version = version })) ed
    ∙ ap (λ (n : ℕ). map_line number (record { status = s; size = returned.size; key = returned.key; descriptor_size = returned.descriptor_size; version = n })) ev

-- what is printed of the caller's variables is what is printed of the reply
same_text : (s : Status) (number : ℕ) (entries : List Descriptor) (returned : MapReply) (before after : MapPlaces) (size key step version : ℕ) → size ≡ after.size → key ≡ after.key → step ≡ after.descriptor_size → version ≡ after.version → after ≡ returned_places returned s before →
    (s ≡ Success → (returned.descriptor_size ≡ record_size) × (returned.version ≡ descriptor_version)) → map_text number entries (record { status = s; size = size; key = key; descriptor_size = step; version = version }) s ≡ map_text number entries returned s
same_text Success number entries returned before after size key step version es ek ed ev places whole =
    ap (λ (line : List ℕ). line ++ flat_map descriptor_line entries)
    (same_line number Success size key step version returned
    (es ∙ ap (λ (p : MapPlaces). p.size) places)
    (ek ∙ ap (λ (p : MapPlaces). p.key) places)
    (ed ∙ ap (λ (p : MapPlaces). p.descriptor_size) places ∙ sym ((whole refl).0))
    (ev ∙ ap (λ (p : MapPlaces). p.version) places ∙ sym ((whole refl).1)))
same_text BufferTooSmall number entries returned before after size key step version es ek ed ev places whole = ap (λ (n : ℕ). size_line number verb.Map n) (es ∙ ap (λ (p : MapPlaces). p.size) places)
same_text s number entries returned before after size key step version es ek ed ev places whole = refl

-- the bytes that were written are those that the reply says were used
map_front : (s : Status) (status : ℕ) (returned : MapReply) (before after : MapPlaces) (map : List ℕ) → status ≡ status_number s → after ≡ returned_places returned s before → written_front status after.size map ≡ take (used_size s returned.size) map
map_front Success status returned before after map e places = ap (λ (n : ℕ). written_front n after.size map) e ∙ ap (λ (p : MapPlaces). take p.size map) places
map_front s status returned before after map e places = ap (λ (n : ℕ). written_front n after.size map) e

-- no map is kept before a call that places nothing
no_map : (A : Type 0) (certify : Bool) (granule : ℕ) (entries : List Descriptor) (size : ℕ) → map_before {A = A} certify granule entries (call.GetMemoryMap size) ≡ None
no_map A true granule entries size = refl
no_map A false granule entries size = refl

map_printed : {A : Type 0} (old : EfiCoreValue A) (number size : ℕ) (returned : MapReply) (bytes : Vec ℕ A) (entries : List Descriptor) (text : List ℕ) → CarriesEntries (reply.GetMemoryMap returned bytes) entries → text ≡ map_text number entries returned returned.status → PrintsCall old.certifies number old.core.state.parts.book (call.GetMemoryMap size) (reply.GetMemoryMap returned bytes) text
map_printed {A = A} old number size returned bytes entries text carries e =
    let b = old.core.state.parts.book in
    prints_call old.certifies number b (call.GetMemoryMap size) (reply.GetMemoryMap returned bytes) [] text None entries carries refl (sym (no_map A old.certifies b.granule (memory_map b.memory) size)) (e ∙ sym (append-nil (map_text number entries returned returned.status)))

pub printed_map : {A : Type 0} (old new core : EfiCoreValue A) (map new_map : List ℕ) (before after : MapPlaces) (status : ℕ) (f : MapFields) (buffer new_buffer : List ℕ) (size new_size : ℕ) → AnswersMap old map before status new_map after new → IsMapReply f status after new_map → PrintsMap core f buffer size (status_number Success) new_buffer new_size →
    HasPrinted old (call.GetMemoryMap (length map)) new f.number buffer new_buffer new_size
printed_map old new core map new_map before after status f buffer new_buffer size new_size (inr (spent, aborted, kept, same_places)) is p =
    absurd (no_text (status_with f.status) f.bytes.now (λ s bytes. map_answer f s bytes) f.number buffer size new_buffer new_size (ap (λ (n : ℕ). status_with n) (is.status ∙ aborted)) p)
printed_map old new core map new_map before after status f buffer new_buffer size new_size (inl (returned, step, leaves, st, places)) is p =
    let known : status_with f.status ≡ Some returned.status = ap (λ (n : ℕ). status_with n) (is.status ∙ st) ∙ found_status returned.status in
    let t = text_placed (status_with f.status) returned.status f.bytes.now (λ s bytes. map_answer f s bytes) f.number buffer size new_buffer new_size known p in
    let used : t.0.items ≡ take (used_size returned.status returned.size) new_map = t.1 ∙ is.bytes ∙ map_front returned.status status returned before after new_map st places in
    let made = map_step (meanings old) old.core.state map returned new_map new.core.state t.0 step used in
    let whole = returned_fields old.core.state.exited old.core.state.parts new.core.state.parts map returned new_map step.answers in
    let same = same_text returned.status f.number t.2 returned before after f.size f.key f.descriptor_size f.version is.size is.key is.descriptor_size is.version places whole in
    let text = reply_text f.number t.2 (map_answer f returned.status t.0) in
    (text, (reply.GetMemoryMap returned t.0, made.0, map_printed old f.number (length map) returned t.0 t.2 text t.3 same), t.4, t.5)

-- ---- reads of the pool

read_front : (s : Status) (status size : ℕ) (bytes : List ℕ) → status ≡ status_number s → written_front status size bytes ≡ take (read_size s size) bytes
read_front Success status size bytes e = ap (λ (n : ℕ). written_front n size bytes) e
read_front s status size bytes e = ap (λ (n : ℕ). written_front n size bytes) e

no_map_of_read : (A : Type 0) (certify : Bool) (granule : ℕ) (entries : List Descriptor) (address size : ℕ) → map_before {A = A} certify granule entries (call.PoolRead address size) ≡ None
no_map_of_read A true granule entries address size = refl
no_map_of_read A false granule entries address size = refl

pub printed_read : {A : Type 0} (old new core : EfiCoreValue A) (address : ℕ) (bytes new_bytes : List ℕ) (status : ℕ) (f : ReadFields) (buffer new_buffer : List ℕ) (size new_size : ℕ) → AnswersRead old address bytes status new_bytes new → IsReadReply f status (length bytes) new_bytes → PrintsRead core f buffer size (status_number Success) new_buffer new_size →
    HasPrinted old (call.PoolRead address (length bytes)) new f.number buffer new_buffer new_size
printed_read old new core address bytes new_bytes status f buffer new_buffer size new_size (inr (spent, aborted, kept)) is p =
    absurd (no_text (status_with f.status) f.bytes.now (λ s bytes. reply.PoolRead s bytes) f.number buffer size new_buffer new_size (ap (λ (n : ℕ). status_with n) (is.status ∙ aborted)) p)
printed_read {A = A} old new core address bytes new_bytes status f buffer new_buffer size new_size (inl (returned, step, leaves, st)) is p =
    let known : status_with f.status ≡ Some returned = ap (λ (n : ℕ). status_with n) (is.status ∙ st) ∙ found_status returned in
    let t = text_placed (status_with f.status) returned f.bytes.now (λ s bytes. reply.PoolRead s bytes) f.number buffer size new_buffer new_size known p in
    let used : t.0.items ≡ take (read_size returned (length bytes)) new_bytes = t.1 ∙ is.bytes ∙ read_front returned status (length bytes) new_bytes st in
    let made = read_step (meanings old) old.core.state address bytes returned new_bytes new.core.state t.0 step used in
    let answer = reply.PoolRead returned t.0 in
    let text = reply_text f.number t.2 answer in
    (text, (answer, made.0, prints_call old.certifies f.number old.core.state.parts.book (call.PoolRead address (length bytes)) answer [] text None t.2 t.3 refl (sym (no_map_of_read A old.certifies old.core.state.parts.book.granule (memory_map old.core.state.parts.book.memory) address (length bytes))) (sym (append-nil text))), t.4, t.5)
