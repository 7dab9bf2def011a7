-- Replies of GetMemoryMap.
use Rattle.std.proofs.Common.{◌≡◌, ℕ, Bool, true, false, cond, leb, List, [], ◌++◌, length, take, take_all, drop, inl, inr, refl, sym, ap, ◌∙◌, arith, append-nil, Vec}
use Rattle.std.proofs.lemmas.List.{drop_all, nil_from_length, take-append-le}
use Rattle.std.proofs.lemmas.Bool.{cases_lt, le-leb, lt-leb, cond-true, cond-false}
use Rattle.page_ranges.specs.declared.statuses.Status.TheVariants.{Success, BufferTooSmall, Unsupported}
use Rattle.page_ranges.specs.MemoryMap.{memory_map}
use Rattle.page_services.specs.PageRules.{Book}
use Rattle.map_keys.specs.declared.memory_maps.MapReply.{MapReply}
use Rattle.map_keys.specs.MapReplies.{descriptor_version, map_size, map_reply, buffer_with_map}
use Rattle.map_keys.specs.Records.{record_size, records}
use Rattle.map_keys.proofs.RecordLists.{length_records}
use Rattle.driver_connect.specs.Drivers.{Meaning}
use Rattle.boot_calls.specs.declared.calls.Call.TheVariants.{GetMemoryMap}
use Rattle.boot_replies.specs.declared.replies.Reply.TheVariants as reply
use Rattle.boot_core.specs.Machines.{Parts, State}
use Rattle.boot_core.specs.MapCalls.{refused_map, map_bytes, room_for_map, AnswersMap}
use Rattle.boot_core.specs.Steps.{WhileOpen, MapStep, Step}
use Rattle.boot_core.specs.Laws.{used_size}

-- a buffer as long as what is used of another fits where that one fits
fits_too : (needed size : ℕ) → leb needed (cond (leb needed size) needed 0) ≡ leb needed size
fits_too needed size = elim (cases_lt size needed) [
  | inl short ↦ ap (λ (room : ℕ). leb needed room) (cond-false (leb needed size) needed 0 (lt-leb needed size short)) ∙ lt-leb needed 0 (omega arith) ∙ sym (lt-leb needed size short)
  | inr fits ↦ ap (λ (room : ℕ). leb needed room) (cond-true (leb needed size) needed 0 (le-leb needed size fits)) ∙ le-leb needed needed (omega arith) ∙ sym (le-leb needed size fits)
]

-- it is filled with what is used of that one
used_bytes : (b : Book) (size : ℕ) (buffer : List ℕ) → length buffer ≡ room_for_map b size → buffer_with_map b buffer ≡ map_bytes b size
used_bytes b size buffer long = elim (cases_lt size (map_size b)) [
  | inl short ↦
      let room : length buffer ≡ 0 = long ∙ cond-false (leb (map_size b) size) (map_size b) 0 (lt-leb (map_size b) size short) in
      cond-false _ _ _ (lt-leb (map_size b) (length buffer) (omega arith)) ∙ nil_from_length buffer room ∙ sym (cond-false _ _ _ (lt-leb (map_size b) size short))
  | inr fits ↦
      let room : length buffer ≡ map_size b = long ∙ cond-true (leb (map_size b) size) (map_size b) 0 (le-leb (map_size b) size fits) in
      cond-true _ _ _ (le-leb (map_size b) (length buffer) (omega arith))
      ∙ ap (λ (rest : List ℕ). records (memory_map b.memory) ++ rest) (drop_all (map_size b) buffer (omega arith))
      ∙ append-nil (records (memory_map b.memory))
      ∙ sym (cond-true _ _ _ (le-leb (map_size b) size fits))
]

-- What is answered through a call where the buffer is as long as what is used of another.
pub answers_map : (b : Book) (size : ℕ) (buffer after : List ℕ) (returned : MapReply) → length buffer ≡ room_for_map b size → returned ≡ map_reply b (length buffer) → after ≡ buffer_with_map b buffer → AnswersMap b size returned after
answers_map b size buffer after returned long e written = inl (
  e ∙ ap (map_reply b) long ∙ rw (fits_too (map_size b) size) refl,
  written ∙ used_bytes b size buffer long,
)

-- the bytes of a vector once its slice has been written
pub written_back : (n : ℕ) (slice old : List ℕ) → n ≡ length slice → take n (slice ++ old) ≡ slice
written_back n slice old e = take-append-le n slice old (omega arith) ∙ take_all n slice (omega arith)

-- each reply has the size
pub returned_size : (fits : Bool) (size key : ℕ) (returned : MapReply) → returned ≡ cond fits (record { status = Success; size = size; key = key; descriptor_size = record_size; version = descriptor_version }) (record { status = BufferTooSmall; size = size; key = 0; descriptor_size = 0; version = 0 }) → returned.size ≡ size
returned_size true size key returned e = ap (λ (r : MapReply). r.size) e
returned_size false size key returned e = ap (λ (r : MapReply). r.size) e

-- a successful reply has the key
returned_if : (fits : Bool) (size key : ℕ) (returned : MapReply) → returned ≡ cond fits (record { status = Success; size = size; key = key; descriptor_size = record_size; version = descriptor_version }) (record { status = BufferTooSmall; size = size; key = 0; descriptor_size = 0; version = 0 }) → returned.status ≡ Success → returned.key ≡ key
returned_if true size key returned e s = ap (λ (r : MapReply). r.key) e
returned_if false size key returned e s = let short = ap (λ (r : MapReply). r.status) e in absurd (cc)

returned_open : (b : Book) (size : ℕ) (returned : MapReply) (bytes : List ℕ) → AnswersMap b size returned bytes → returned.status ≡ Success → returned.key ≡ b.key
returned_open b size returned bytes (inl h) s = returned_if (leb (map_size b) size) (map_size b) b.key returned h.0 s
returned_open b size returned bytes (inr h) s = let refused = ap (λ (r : MapReply). r.status) h.2 in absurd (cc)

pub returned_key : (exited : Bool) (old new : Parts) (size : ℕ) (returned : MapReply) (bytes : List ℕ) → WhileOpen exited old new (AnswersMap old.book size returned bytes × (new ≡ old)) ((returned ≡ refused_map Unsupported) × (bytes ≡ [])) → returned.status ≡ Success → (returned.key ≡ old.book.key) × (new ≡ old)
returned_key true old new size returned bytes h s = let refused = ap (λ (r : MapReply). r.status) h.0.0 in absurd (cc)
returned_key false old new size returned bytes h s = (returned_open old.book size returned bytes h.0 s, h.1)

pub returned_directly : (exited : Bool) (old new : Parts) (buffer : List ℕ) (returned : MapReply) (after : List ℕ) → WhileOpen exited old new ((returned ≡ map_reply old.book (length buffer)) × (after ≡ buffer_with_map old.book buffer) × (new ≡ old)) ((returned ≡ refused_map Unsupported) × (after ≡ buffer)) → returned.status ≡ Success → (returned.key ≡ old.book.key) × (new ≡ old)
returned_directly true old new buffer returned after h s = let refused = ap (λ (r : MapReply). r.status) h.0.0 in absurd (cc)
returned_directly false old new buffer returned after h s = (returned_if (leb (map_size old.book) (length buffer)) (map_size old.book) old.book.key returned h.0 s, h.2)

-- ---- a buffer of the caller's

-- the bytes that are used are the front of the buffer
pub front_used : (b : Book) (buffer : List ℕ) (returned : MapReply) → returned ≡ map_reply b (length buffer) → take (used_size returned.status returned.size) (buffer_with_map b buffer) ≡ map_bytes b (length buffer)
front_used b buffer returned e = elim (cases_lt (length buffer) (map_size b)) [
  | inl short ↦
      let is : returned ≡ record { status = BufferTooSmall; size = map_size b; key = 0; descriptor_size = 0; version = 0 } = e ∙ cond-false _ _ _ (lt-leb (map_size b) (length buffer) short) in
      let none : used_size returned.status returned.size ≡ 0 = ap (λ (r : MapReply). used_size r.status r.size) is in
      ap (λ (n : ℕ). take n (buffer_with_map b buffer)) none ∙ sym (cond-false _ _ _ (lt-leb (map_size b) (length buffer) short))
  | inr fits ↦
      let is : returned ≡ record { status = Success; size = map_size b; key = b.key; descriptor_size = record_size; version = descriptor_version } = e ∙ cond-true _ _ _ (le-leb (map_size b) (length buffer) fits) in
      let all : used_size returned.status returned.size ≡ map_size b = ap (λ (r : MapReply). used_size r.status r.size) is in
      ap (λ (n : ℕ). take n (buffer_with_map b buffer)) all
      ∙ ap (take (map_size b)) (cond-true _ _ _ (le-leb (map_size b) (length buffer) fits))
      ∙ written_back (map_size b) (records (memory_map b.memory)) (drop (map_size b) buffer) (sym (length_records (memory_map b.memory)))
      ∙ sym (cond-true _ _ _ (le-leb (map_size b) (length buffer) fits))
]

-- and the rest of it is as it was
pub rest_kept : (b : Book) (buffer : List ℕ) → buffer_with_map b buffer ≡ map_bytes b (length buffer) ++ drop (length (map_bytes b (length buffer))) buffer
rest_kept b buffer = elim (cases_lt (length buffer) (map_size b)) [
  | inl short ↦
      let none = cond-false (leb (map_size b) (length buffer)) (records (memory_map b.memory)) [] (lt-leb (map_size b) (length buffer) short) in
      cond-false _ _ _ (lt-leb (map_size b) (length buffer) short) ∙ sym (ap (λ (used : List ℕ). used ++ drop (length used) buffer) none)
  | inr fits ↦
      let all = cond-true (leb (map_size b) (length buffer)) (records (memory_map b.memory)) [] (le-leb (map_size b) (length buffer) fits) in
      cond-true _ _ _ (le-leb (map_size b) (length buffer) fits)
      ∙ ap (λ (n : ℕ). records (memory_map b.memory) ++ drop n buffer) (sym (length_records (memory_map b.memory)))
      ∙ sym (ap (λ (used : List ℕ). used ++ drop (length used) buffer) all)
]

map_open : (exited : Bool) (old new : Parts) (buffer : List ℕ) (returned : MapReply) (after used : List ℕ) → WhileOpen exited old new ((returned ≡ map_reply old.book (length buffer)) × (after ≡ buffer_with_map old.book buffer) × (new ≡ old)) ((returned ≡ refused_map Unsupported) × (after ≡ buffer)) → used ≡ take (used_size returned.status returned.size) after →
    WhileOpen exited old new (AnswersMap old.book (length buffer) returned used × (new ≡ old)) ((returned ≡ refused_map Unsupported) × (used ≡ [])) × (after ≡ used ++ drop (length used) buffer)
map_open true old new buffer returned after used h e =
    let none : used ≡ [] = e ∙ ap (λ (r : MapReply). take (used_size r.status r.size) after) h.0.0 in
    (((h.0.0, none), h.1), h.0.1 ∙ sym (ap (λ (ys : List ℕ). ys ++ drop (length ys) buffer) none))
map_open false old new buffer returned after used h e =
    let bytes : used ≡ map_bytes old.book (length buffer) = e ∙ ap (take (used_size returned.status returned.size)) h.1 ∙ front_used old.book buffer returned h.0 in
    ((inl (h.0, bytes), h.2), h.1 ∙ rest_kept old.book buffer ∙ sym (ap (λ (ys : List ℕ). ys ++ drop (length ys) buffer) bytes))

pub map_step : {A : Type 0} (ds : List Meaning) (old : State) (buffer : List ℕ) (returned : MapReply) (after : List ℕ) (new : State) (used : Vec ℕ A) → MapStep old buffer returned after new → used.items ≡ take (used_size returned.status returned.size) after → Step ds old (GetMemoryMap (length buffer)) (reply.GetMemoryMap returned used) new × (after ≡ used.items ++ drop (length used.items) buffer)
map_step ds old buffer returned after new used step bytes = (record { answers = (returned, used, refl, (map_open old.exited old.parts new.parts buffer returned after used.items step.answers bytes).0); exited = step.exited; calls_left = step.calls_left }, (map_open old.exited old.parts new.parts buffer returned after used.items step.answers bytes).1)
