-- Certificates, along runs.
use Rattle.std.proofs.Common.{◌≡◌, ◌≤◌, ◌*◌, ◌^◌, ℕ, nat_lt, cond, length, ◌∙◌, ap, sym, subst, arith, Bool, true, false, List, [], ◌∷◌, Option, Some, None, Result, Ok, Err, IfSome}
use Rattle.std.proofs.lemmas.Bool.{le-leb}
use Rattle.std.specs.Option.{option_map, option_and_then}
use Rattle.std.specs.List.{AllByRecursion}
use Rattle.page_ranges.specs.declared.ranges.Run.{Run}
use Rattle.page_ranges.specs.declared.statuses.Status.{Status}
use Rattle.page_ranges.specs.declared.statuses.Status.TheVariants.{Unsupported}
use Rattle.page_ranges.specs.MemoryTypes.{page_count, is_bad_type, is_machine_type}
use Rattle.page_ranges.specs.Granules.{IsGranule}
use Rattle.page_ranges.specs.Memory.{IsProperMemory, HasMachineTypes}
use Rattle.page_ranges.specs.MemoryMap.{memory_map}
use Rattle.page_ranges.specs.Runs.{page_in, pages_of}
use Rattle.page_ranges.proofs.Rows.{all-row}
use Rattle.placement_certificate.specs.declared.certificates.Request.{Request}
use Rattle.placement_certificate.specs.Placement.{IsProperRequest}
use Rattle.placement_certificate.specs.Certificates.{CertificateValue}
use Rattle.placement_certificate.specs.Acceptance.{IsAccepted}
use Rattle.placement_certificate.proofs.Accepted.{true_accepted}
use Rattle.map_keys.specs.Records.{IsRecordEntry}
use Rattle.page_services.specs.declared.page_book.Placed.{Placed}
use Rattle.page_services.specs.PageRules.{Book, IsBestChoice, IsPlaced, if_counted, placement_request, pool_request, AllocatesPages}
use Rattle.page_services.proofs.Choices.{best_is_permitted, returned_is_true}
use Rattle.page_services.proofs.Granules.{whole_request_proper}
use Rattle.pool_services.specs.Extents.{Extent, Place, first_fit, max_size, pages_for}
use Rattle.pool_services.specs.PoolRules.{Answer, AllocatesPool, FillsPool, IsPut, extent_request}
use Rattle.open_agents.specs.declared.items.OpenItem.{OpenItem}
use Rattle.open_agents.specs.OpenItems.{items_on}
use Rattle.protocol_services.specs.ListBytes.{handle_bytes, item_bytes}
use Rattle.protocol_services.proofs.ListSizes.{handle_bytes-length, item_bytes-length}
use Rattle.driver_connect.specs.Drivers.{Meaning}
use Rattle.boot_replies.specs.declared.replies.PoolList.{PoolList}
use Rattle.boot_calls.specs.declared.calls.Call.{Call}
use Rattle.boot_calls.specs.declared.calls.Call.TheVariants as call
use Rattle.boot_replies.specs.declared.replies.Reply.{Reply}
use Rattle.boot_replies.specs.declared.replies.Reply.TheVariants as reply
use Rattle.boot_machines.specs.MachineRuns.{HasRecordNumbers}
use Rattle.boot_machines.specs.Machines.{IsMachine, MachineValue}
use Rattle.boot_core.specs.Machines.{Parts, State, AreSound, prepared_state}
use Rattle.boot_replies.specs.Certified.{certificate_in, left_request}
use Rattle.boot_core.specs.PoolLists.{LocatesBuffer, ListsOpens, PutsItems}
use Rattle.boot_replies.specs.Certified.{list_type}
use Rattle.boot_core.specs.Steps.{best_starts, Answers, CallRun}
use Rattle.boot_core.specs.Laws.{IsAcceptedReply, AllAccepted}
use Rattle.boot_calls.specs.CallNumbers.{NamesTypes}
use Rattle.boot_core.proofs.Outcomes.{stays_typed, stays_fitting, outcome, proper_request}
use Rattle.boot_core.proofs.RecordPages.{HaveFields, first_fields, record_entries}
use Rattle.boot_core.proofs.Soundness.{prepared_sound, stays_sound}

-- the pages of a machine have types of machines
pub first_types : (rs : List Run) → AllByRecursion (λ r. is_machine_type r.mtype ≡ true) rs → HasMachineTypes (pages_of rs)
first_types [] a = tt
first_types (r ∷ rs) a = all-row (λ x. is_machine_type x.mtype ≡ true) (pages_of rs) r.range.pages (page_in r.range.first r) (λ k low high. a.0) (first_types rs a.1)

module _ (b : Book) (proper : IsProperMemory b.memory) (typed : HasMachineTypes b.memory) where
  with_certificate : (r : Request) (start : ℕ) (c : Option CertificateValue) → IsProperRequest r → IsBestChoice b r start c → IfSome {T = Request × CertificateValue} (option_map (λ c. (r, c)) c) (λ returned. IsAccepted (memory_map b.memory) returned.0 returned.1)
  with_certificate r start None good best = tt
  with_certificate r start (Some c) good best = true_accepted b.memory r c proper typed good (returned_is_true b r start c best)

-- a reply without a certificate
abbrev none_for : Request → Option (Request × CertificateValue)
none_for r = None

uncertified : (r : Option Request) (P : (Request × CertificateValue) → Type 0) → IfSome (option_and_then none_for r) P
uncertified None P = tt
uncertified (Some r) P = tt

-- the certificate of a placement is accepted with its request
accepted_placement : {A : Type 0} (b : Book) (r : Option Request) (t pages memory : ℕ) (placed : Placed A) → IsProperMemory b.memory → HasMachineTypes b.memory → IfSome r IsProperRequest → IsPlaced IsBestChoice b r t pages memory placed →
    IfSome {T = Request × CertificateValue} (option_and_then (λ r. option_map (λ c. (r, c)) placed.certificate) r) (λ returned. IsAccepted (memory_map b.memory) returned.0 returned.1)
accepted_placement b None t pages memory placed proper typed good h = tt
accepted_placement b (Some r) t pages memory placed proper typed good (start, best, at) = with_certificate b proper typed r start placed.certificate good best

-- the certificate of a reply, with the request that the call leaves to the service
abbrev certified_left : {A : Type 0} → ℕ → Call A → Reply A → Option (Request × CertificateValue)
certified_left granule c answer = option_and_then (λ r. option_map (λ certificate. (r, certificate)) (certificate_in answer)) (left_request granule c answer)

-- what holds of it holds too where its pages are counted
counted_one : (r : Request) (certificate_for : Request → Option (Request × CertificateValue)) (P : (Request × CertificateValue) → Type 0) → IfSome (certificate_for r) P → IfSome (option_and_then certificate_for (if_counted r)) P
counted_one r certificate_for P h = elim (nat_lt r.pages (2 ^ 64)) as (λ b. IfSome (option_and_then certificate_for (option_map (λ n. r) (cond b (Some r.pages) None))) P) [
  | true ↦ h
  | false ↦ tt
]

counted : (o : Option Request) (certificate_for : Request → Option (Request × CertificateValue)) (P : (Request × CertificateValue) → Type 0) → IfSome (option_and_then certificate_for o) P → IfSome (option_and_then certificate_for (option_and_then if_counted o)) P
counted None certificate_for P h = tt
counted (Some r) certificate_for P h = counted_one r certificate_for P h

module _ (old : Parts) (proper : IsProperMemory old.book.memory) (typed : HasMachineTypes old.book.memory) (granule : IsGranule old.book.granule) where
  accepted_block : (t size : ℕ) (o : Option Place) (answer : Answer) (b : Book) (es : List Extent) → is_bad_type t ≡ false → size ≤ max_size → IsPut IsBestChoice o old.book old.pools t size answer b es →
      IfSome {T = Request × CertificateValue} (option_and_then (λ r. option_map (λ c. (r, c)) answer.1) (extent_request old.book.granule t size)) (λ returned. IsAccepted (memory_map old.book.memory) returned.0 returned.1)
  accepted_block t size (Some p) answer b es good few (address, none, book, extents) = rw none (uncertified (extent_request old.book.granule t size) _)
  accepted_block t size None answer b es good few (start, best, at, book, extents) =
      rw (le-leb size max_size few) (with_certificate old.book proper typed (pool_request old.book.granule t (pages_for size)) start answer.1 (whole_request_proper old.book.granule t (pages_for size) page_count granule good (omega arith)) best)

  pool_result : (A : Type 0) (t size : ℕ) (result : Result Answer Status) (b : Book) (es : List Extent) → AllocatesPool IsBestChoice old.book old.pools t size result b es →
      IfSome (certified_left {A = A} old.book.granule (call.AllocatePool t size) (reply.AllocatePool result)) (λ returned. IsAccepted (memory_map old.book.memory) returned.0 returned.1)
  pool_result A t size (Ok answer) b es (good, few, put) = accepted_block t size (first_fit t size old.pools) answer b es good few put
  pool_result A t size (Err e) b es h = uncertified (extent_request old.book.granule t size) _

  -- the block of a list, with the certificate of a new extent
  list_result : {A : Type 0} (size : ℕ) (bytes : List ℕ) (returned : PoolList A) (b : Book) (es : List Extent) → length bytes ≡ size * returned.count → FillsPool IsBestChoice old.book old.pools list_type bytes (Ok (returned.address, returned.certificate)) b es →
      IfSome {T = Request × CertificateValue} (option_and_then (λ r. option_map (λ c. (r, c)) returned.certificate) (extent_request old.book.granule list_type (size * returned.count))) (λ returned. IsAccepted (memory_map old.book.memory) returned.0 returned.1)
  list_result size bytes returned b es long (placed, (good, few, put), e) =
      subst (λ (n : ℕ). IfSome {T = Request × CertificateValue} (option_and_then (λ r. option_map (λ c. (r, c)) returned.certificate) (extent_request old.book.granule list_type n)) (λ returned. IsAccepted (memory_map old.book.memory) returned.0 returned.1)) long
      (accepted_block list_type (length bytes) (first_fit list_type (length bytes) old.pools) (returned.address, returned.certificate) b placed good few put)

  buffer_result : {A : Type 0} (search : ℕ) (guid : List ℕ) (key : ℕ) (result : Result (PoolList A) Status) (new : Parts) → LocatesBuffer IsBestChoice old search guid key result new →
      IfSome (certified_left old.book.granule (call.LocateHandleBuffer search guid key) (reply.LocateHandleBuffer result)) (λ returned. IsAccepted (memory_map old.book.memory) returned.0 returned.1)
  buffer_result search guid key (Ok returned) new (handles, found, some, count, filled, lists) =
      list_result 8 (handle_bytes handles) returned new.book new.pools (handle_bytes-length handles ∙ ap (λ (n : ℕ). 8 * n) (sym count)) filled
  buffer_result search guid key (Err e) new h = tt

  items_result : {A : Type 0} (handle : ℕ) (guid : List ℕ) (items : List OpenItem) (returned : PoolList A) (new : Parts) → returned.count ≡ length items → PutsItems IsBestChoice old items returned new →
      IfSome (certified_left old.book.granule (call.OpenProtocolInformation handle guid) (reply.OpenProtocolInformation (Ok returned))) (λ returned. IsAccepted (memory_map old.book.memory) returned.0 returned.1)
  items_result handle guid [] returned new count h = rw h.1 (uncertified (extent_request old.book.granule list_type (24 * returned.count)) _)
  items_result handle guid (i ∷ items) returned new count h = list_result 24 (item_bytes (i ∷ items)) returned new.book new.pools (item_bytes-length (i ∷ items) ∙ ap (λ (n : ℕ). 24 * n) (sym count)) h.0

  opens_result : {A : Type 0} (handle : ℕ) (guid : List ℕ) (result : Result (PoolList A) Status) (new : Parts) → ListsOpens IsBestChoice old handle guid result new →
      IfSome (certified_left old.book.granule (call.OpenProtocolInformation handle guid) (reply.OpenProtocolInformation result)) (λ returned. IsAccepted (memory_map old.book.memory) returned.0 returned.1)
  opens_result handle guid (Ok returned) new h = items_result handle guid (items_on old.lists.opens handle guid) returned new h.1 h.2
  opens_result handle guid (Err e) new h = tt

module _ {A : Type 0} (ds : List Meaning) (old : Parts) (proper : IsProperMemory old.book.memory) (typed : HasMachineTypes old.book.memory) (granule : IsGranule old.book.granule) where
  accepted_result : (kind t pages memory : ℕ) (result : Result (Placed A) Status) (new : Parts) → AllocatesPages IsBestChoice old.book kind t pages memory result new.book → IfSome (certified_left old.book.granule (call.AllocatePages kind t pages memory) (reply.AllocatePages result)) (λ returned. IsAccepted (memory_map old.book.memory) returned.0 returned.1)
  accepted_result kind t pages memory (Ok placed) new (valid, at, e) =
      accepted_placement old.book (placement_request old.book.granule kind t pages memory) t pages memory placed proper typed (proper_request old.book.granule kind t pages memory granule valid.1 valid.2) at
  accepted_result kind t pages memory (Err e) new h = uncertified (placement_request old.book.granule kind t pages memory) _

  accepted_pages : (exited : Bool) (kind t pages memory : ℕ) (answer : Reply A) (new : Parts) → Answers (best_starts ds) exited old (call.AllocatePages kind t pages memory) answer new → IfSome (certified_left old.book.granule (call.AllocatePages kind t pages memory) answer) (λ returned. IsAccepted (memory_map old.book.memory) returned.0 returned.1)
  accepted_pages true kind t pages memory answer new (result, e, h) =
      let refused : answer ≡ reply.AllocatePages (Err Unsupported) = e ∙ ap reply.AllocatePages h.0 in
      subst (λ (a : Reply A). IfSome (certified_left old.book.granule (call.AllocatePages kind t pages memory) a) (λ returned. IsAccepted (memory_map old.book.memory) returned.0 returned.1)) (sym refused) (uncertified (placement_request old.book.granule kind t pages memory) _)
  accepted_pages false kind t pages memory answer new (result, e, h) =
      subst (λ (a : Reply A). IfSome (certified_left old.book.granule (call.AllocatePages kind t pages memory) a) (λ returned. IsAccepted (memory_map old.book.memory) returned.0 returned.1)) (sym e) (accepted_result kind t pages memory result new h.0)

  accepted_pool : (exited : Bool) (t size : ℕ) (answer : Reply A) (new : Parts) → Answers (best_starts ds) exited old (call.AllocatePool t size) answer new → IfSome (certified_left old.book.granule (call.AllocatePool t size) answer) (λ returned. IsAccepted (memory_map old.book.memory) returned.0 returned.1)
  accepted_pool true t size answer new (result, e, h) =
      let refused : answer ≡ reply.AllocatePool (Err Unsupported) = e ∙ ap reply.AllocatePool h.0 in
      subst (λ (a : Reply A). IfSome (certified_left old.book.granule (call.AllocatePool t size) a) (λ returned. IsAccepted (memory_map old.book.memory) returned.0 returned.1)) (sym refused) (uncertified (extent_request old.book.granule t size) _)
  accepted_pool false t size answer new (result, e, h) =
      subst (λ (a : Reply A). IfSome (certified_left old.book.granule (call.AllocatePool t size) a) (λ returned. IsAccepted (memory_map old.book.memory) returned.0 returned.1)) (sym e) (pool_result old proper typed granule A t size result new.book new.pools h.0)

  accepted_buffer : (exited : Bool) (search : ℕ) (guid : List ℕ) (key : ℕ) (answer : Reply A) (new : Parts) → Answers (best_starts ds) exited old (call.LocateHandleBuffer search guid key) answer new → IfSome (certified_left old.book.granule (call.LocateHandleBuffer search guid key) answer) (λ returned. IsAccepted (memory_map old.book.memory) returned.0 returned.1)
  accepted_buffer true search guid key answer new (result, e, h) =
      let refused : answer ≡ reply.LocateHandleBuffer (Err Unsupported) = e ∙ ap reply.LocateHandleBuffer h.0 in
      subst (λ (a : Reply A). IfSome (certified_left old.book.granule (call.LocateHandleBuffer search guid key) a) (λ returned. IsAccepted (memory_map old.book.memory) returned.0 returned.1)) (sym refused) tt
  accepted_buffer false search guid key answer new (result, e, h) =
      subst (λ (a : Reply A). IfSome (certified_left old.book.granule (call.LocateHandleBuffer search guid key) a) (λ returned. IsAccepted (memory_map old.book.memory) returned.0 returned.1)) (sym e) (buffer_result old proper typed granule search guid key result new h)

  accepted_opens : (exited : Bool) (handle : ℕ) (guid : List ℕ) (answer : Reply A) (new : Parts) → Answers (best_starts ds) exited old (call.OpenProtocolInformation handle guid) answer new → IfSome (certified_left old.book.granule (call.OpenProtocolInformation handle guid) answer) (λ returned. IsAccepted (memory_map old.book.memory) returned.0 returned.1)
  accepted_opens true handle guid answer new (result, e, h) =
      let refused : answer ≡ reply.OpenProtocolInformation (Err Unsupported) = e ∙ ap reply.OpenProtocolInformation h.0 in
      subst (λ (a : Reply A). IfSome (certified_left old.book.granule (call.OpenProtocolInformation handle guid) a) (λ returned. IsAccepted (memory_map old.book.memory) returned.0 returned.1)) (sym refused) tt
  accepted_opens false handle guid answer new (result, e, h) =
      subst (λ (a : Reply A). IfSome (certified_left old.book.granule (call.OpenProtocolInformation handle guid) a) (λ returned. IsAccepted (memory_map old.book.memory) returned.0 returned.1)) (sym e) (opens_result old proper typed granule handle guid result new h)

  accepted_left : (exited : Bool) (c : Call A) (answer : Reply A) (new : Parts) → Answers (best_starts ds) exited old c answer new → IfSome (certified_left old.book.granule c answer) (λ returned. IsAccepted (memory_map old.book.memory) returned.0 returned.1)
  accepted_left exited (call.AllocatePages kind t pages memory) answer new h = accepted_pages exited kind t pages memory answer new h
  accepted_left exited (call.AllocatePool t size) answer new h = accepted_pool exited t size answer new h
  accepted_left exited (call.LocateHandleBuffer search guid key) answer new h = accepted_buffer exited search guid key answer new h
  accepted_left exited (call.OpenProtocolInformation handle guid) answer new h = accepted_opens exited handle guid answer new h
  accepted_left exited c answer new h = tt

  pub accepted_reply : (exited : Bool) (calls_left : ℕ) (c : Call A) (answer : Reply A) (new : Parts) → Answers (best_starts ds) exited old c answer new → IsAcceptedReply (record { parts = old; exited = exited; calls_left = calls_left }) c answer
  accepted_reply exited n c answer new h =
      counted (left_request old.book.granule c answer) (λ r. option_map (λ certificate. (r, certificate)) (certificate_in answer)) (λ returned. IsAccepted (memory_map old.book.memory) returned.0 returned.1) (accepted_left exited c answer new h)

all_accepted : {A : Type 0} (ds : List Meaning) (old : State) (calls : List (Call A)) (replies : List (Reply A)) (new : State) (run : CallRun ds old calls replies new) → AreSound old.parts → HasMachineTypes old.parts.book.memory → AllAccepted ds old calls replies new run
all_accepted ds old (c ∷ calls) (r ∷ replies) new (next, step, run) sound typed =
    let o = outcome (best_starts ds) best_is_permitted old.exited old.parts c r next.parts sound step.answers in
    let still = stays_sound (best_starts ds) best_is_permitted old.exited old.parts c r next.parts sound step.answers in
    (accepted_reply ds old.parts sound.proper typed sound.granules.granule old.exited old.calls_left c r next.parts step.answers, all_accepted ds next calls replies new run still (stays_typed (NamesTypes c) old.parts.book next.parts.book typed o))
all_accepted ds old [] [] new run sound typed = tt
all_accepted ds old [] (r ∷ replies) new run sound typed = tt
all_accepted ds old (c ∷ calls) [] new run sound typed = tt

pub accepted_run : {A : Type 0} (ds : List Meaning) (placements : ℕ) (certifies : Bool) (machine : MachineValue) (calls : List (Call A)) (replies : List (Reply A)) (new : State) (run : CallRun ds (prepared_state placements certifies machine) calls replies new) → IsMachine machine → AllAccepted ds (prepared_state placements certifies machine) calls replies new run
accepted_run ds placements certifies machine calls replies new run valid = all_accepted ds (prepared_state placements certifies machine) calls replies new run (prepared_sound placements certifies machine valid) (first_types machine.runs valid.runs.mtypes)

-- ---- records

entries_after : {A : Type 0} (ds : List Meaning) (old : State) (calls : List (Call A)) (replies : List (Reply A)) (new : State) → CallRun ds old calls replies new → AreSound old.parts → HaveFields old.parts.book.memory → AllByRecursion NamesTypes calls → AllByRecursion IsRecordEntry (memory_map new.parts.book.memory)
entries_after ds old [] [] new run sound fields names = subst (λ (s : State). AllByRecursion IsRecordEntry (memory_map s.parts.book.memory)) (sym run) (record_entries old.parts.book.memory sound.proper fields)
entries_after ds old (c ∷ calls) (r ∷ replies) new (next, step, run) sound fields names =
    let o = outcome (best_starts ds) best_is_permitted old.exited old.parts c r next.parts sound step.answers in
    let still = stays_sound (best_starts ds) best_is_permitted old.exited old.parts c r next.parts sound step.answers in
    entries_after ds next calls replies new run still (stays_fitting (NamesTypes c) old.parts.book next.parts.book names.0 fields o) names.1
entries_after ds old [] (r ∷ replies) new run sound fields names = absurd run
entries_after ds old (c ∷ calls) [] new run sound fields names = absurd run

pub entries_of_run : {A : Type 0} (ds : List Meaning) (placements : ℕ) (certifies : Bool) (machine : MachineValue) (calls : List (Call A)) (replies : List (Reply A)) (new : State) → IsMachine machine → AllByRecursion HasRecordNumbers machine.runs → AllByRecursion NamesTypes calls → CallRun ds (prepared_state placements certifies machine) calls replies new → AllByRecursion IsRecordEntry (memory_map new.parts.book.memory)
entries_of_run ds placements certifies machine calls replies new valid numbers names run = entries_after ds (prepared_state placements certifies machine) calls replies new run (prepared_sound placements certifies machine valid) (first_fields machine.runs numbers) names
