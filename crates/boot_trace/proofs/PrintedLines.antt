-- What is printed of each line, in the states that a run on a machine file comes to.
use Rattle.std.proofs.Common.{◌≡◌, ℕ, ◌+◌, ◌*◌, ◌^◌, ◌<◌, ◌≤◌, ◌==◌, nat_le, nat_lt, Bool, true, false, cond, List, [], ◌∷◌, ◌++◌, length, take, Option, Some, None, Result, Ok, Err, IfSome, Vec, refl, sym, ap, subst, ◌∙◌, arith, append-nil, lit<}
use Rattle.std.specs.List.{AllByRecursion}
use Rattle.std.specs.Option.{option_map, option_and_then}
use Rattle.std.proofs.lemmas.Bool.{ltb-true}
use Rattle.std.proofs.lemmas.List.{length-take}
use Rattle.page_ranges.specs.declared.ranges.Descriptor.{Descriptor}
use Rattle.page_ranges.specs.declared.statuses.Status.TheVariants.{Success}
use Rattle.page_ranges.specs.MemoryTypes.{page_count, pages_below}
use Rattle.page_ranges.specs.Granules.{IsGranule}
use Rattle.page_ranges.specs.Memory.{HasMachineTypes}
use Rattle.page_ranges.specs.MemoryMap.{memory_map}
use Rattle.page_ranges.proofs.Members.{all_implied}
use Rattle.page_ranges.proofs.RunMaps.{entries_at_most}
use Rattle.page_ranges.proofs.WholeGranules.{granule_for_granule}
use Rattle.placement_certificate.specs.declared.certificates.Request.{Request}
use Rattle.placement_certificate.specs.Certificates.{CertificateValue}
use Rattle.placement_certificate.specs.Acceptance.{IsAccepted}
use Rattle.map_keys.specs.declared.memory_maps.MapReply.{MapReply}
use Rattle.map_keys.specs.Records.{IsRecordEntry, ReadsRecords}
use Rattle.map_keys.proofs.RecordLists.{read_back}
use Rattle.page_services.specs.PageRules.{any_pages, max_address, if_counted, pool_request, whole_request}
use Rattle.page_services.proofs.Choices.{best_is_permitted}
use Rattle.pool_services.specs.Extents.{max_size, pages_for}
use Rattle.pool_services.specs.PoolRules.{extent_request}
use Rattle.certificate_blocks.specs.BlockLaws.{HasEntryNumbers, HasRequestNumbers, IsAcceptedBlock}
use Rattle.certificate_blocks.proofs.AcceptedBlocks.{accepted_block}
use Rattle.driver_connect.specs.Drivers.{Meaning}
use Rattle.boot_calls.specs.declared.calls.Call.{Call}
use Rattle.boot_calls.specs.declared.calls.Call.TheVariants as call
use Rattle.boot_replies.specs.declared.replies.Reply.{Reply}
use Rattle.boot_replies.specs.declared.replies.Reply.TheVariants as reply
use Rattle.boot_replies.specs.Certified.{left_request, list_request, request_for, certificate_in, certified, returned_count}
use Rattle.boot_replies.specs.Certified.{list_type}
use Rattle.boot_calls.specs.CallNumbers.{NamesTypes}
use Rattle.boot_machines.specs.Machines.{most_descriptors}
use Rattle.boot_core.specs.Machines.{State, AreSound, prepared_state}
use Rattle.boot_core.specs.Steps.{best_starts, Step}
use Rattle.boot_core.proofs.Acceptances.{first_types, accepted_reply}
use Rattle.boot_core.proofs.Outcomes.{outcome, stays_typed, stays_fitting, map_grows}
use Rattle.boot_core.proofs.RecordPages.{HaveFields, first_fields, record_entries}
use Rattle.boot_core.proofs.Soundness.{prepared_sound, stays_sound}
use Rattle.machine_files.specs.MachineText.{ListedMachine, machine_of}
use Rattle.machine_files.proofs.MachineOrder.{machine_in}
use Rattle.text_lines.specs.Lines.{lines_of}
use Rattle.trace_lines.specs.declared.faults.TraceFault.{TraceFault}
use Rattle.trace_lines.specs.declared.lines.TraceCall.{TraceCall}
use Rattle.trace_lines.specs.declared.lines.TraceCall.TheVariants as trace_call
use Rattle.trace_lines.specs.Laws.{HasCallNumbers}
use Rattle.trace_lines.specs.TraceLine.{line_of}
use Rattle.trace_lines.proofs.LineCalls.{call_numbers, named_types}
use Rattle.reply_texts.specs.CallText.{PrintsCall}
use Rattle.reply_texts.specs.PrintedText.{reply_text}
use Rattle.boot_trace.proofs.MapEntries.{returned_bytes, carried}
use Rattle.boot_trace.specs.Laws.{OfLine, OfEachLine, PrintsAcceptedBlock, PrintsReadMap}
use Rattle.boot_trace.specs.TraceRuns.{Prints, PrintsAll, Wrote, most_lines}

-- ---- the states of a run

-- A state that at most a number of lines came before: its parts are sound, and its map can be printed in blocks and in records.
record IsReached (lines : ℕ) (s : State) : Type 0 where
  sound : AreSound s.parts
  typed : HasMachineTypes s.parts.book.memory
  fields : HaveFields s.parts.book.memory
  few : length (memory_map s.parts.book.memory) ≤ most_descriptors + 2 * lines

first_reached : (placements : ℕ) (certifies : Bool) (file : List ℕ) (machine : ListedMachine) → machine_of file ≡ Ok machine → IsReached 0 (prepared_state placements certifies machine.machine)
first_reached placements certifies file machine said =
    let (valid, numbers, few, drivers) = machine_in file machine said in
    record { sound = prepared_sound placements certifies machine.machine valid; typed = first_types machine.machine.runs valid.runs.mtypes; fields = first_fields machine.machine.runs numbers; few = omega (arith, entries_at_most machine.machine.runs valid.runs.runs) }

reached_later : (n : ℕ) (s : State) → IsReached n s → IsReached (n + 1) s
reached_later n s is = record { sound = is.sound; typed = is.typed; fields = is.fields; few = omega (arith, is.few) }

reached_by_step : {A : Type 0} (ds : List Meaning) (n : ℕ) (old : State) (c : Call A) (answer : Reply A) (new : State) → IsReached n old → NamesTypes c → Step ds old c answer new → IsReached (n + 1) new
reached_by_step ds n old c answer new is names step =
    let o = outcome (best_starts ds) best_is_permitted old.exited old.parts c answer new.parts is.sound step.answers in
    record {
      sound = stays_sound (best_starts ds) best_is_permitted old.exited old.parts c answer new.parts is.sound step.answers;
      typed = stays_typed (NamesTypes c) old.parts.book new.parts.book is.typed o;
      fields = stays_fitting (NamesTypes c) old.parts.book new.parts.book names is.fields o;
      few = omega (arith, is.few, map_grows (NamesTypes c) old.parts.book new.parts.book o);
    }

-- what a line says of its call's types
abbrev AsksForTypes : {A : Type 0} → Result (Option (TraceCall A)) TraceFault → Type 0
AsksForTypes {A = A} asks = (c : Call A) → asks ≡ Ok (Some (trace_call.Service c)) → NamesTypes c

reached_by_line : (A : Type 0) (ds : List Meaning) (certify : Bool) (n number : ℕ) (asks : Result (Option (TraceCall A)) TraceFault) (old : State) (text : List ℕ) (new : State) → IsReached n old → AsksForTypes asks → Prints A ds certify number asks old text new → IsReached (n + 1) new
reached_by_line A ds certify n number (Ok None) old text new is names (none, e) = subst (IsReached (n + 1)) (sym e) (reached_later n old is)
reached_by_line A ds certify n number (Ok (Some trace_call.List)) old text new is names (listed, e) = subst (IsReached (n + 1)) (sym e) (reached_later n old is)
reached_by_line A ds certify n number (Ok (Some (trace_call.Service c))) old text new is names (answer, step, prints) = reached_by_step ds n old c answer new is (names c refl) step
reached_by_line A ds certify n number (Err e) old text new is names prints = absurd prints

-- ---- certificates

entry_numbers : (d : Descriptor) → IsRecordEntry d → HasEntryNumbers d
entry_numbers d is =
    let room : page_count < 2 ^ 64 = lit< tt in
    record { mtype = is.mtype; first = omega (arith, is.within); pages = omega (arith, is.within); attributes = is.attributes }

-- the numbers of a request but that of its pages
abbrev HasOtherNumbers : Request → Type 0
HasOtherNumbers r = (r.mtype < 2 ^ 32) × (r.limit < 2 ^ 64) × IsGranule r.granule

chosen_numbers : (b : Bool) (r : Request) (o : Option Request) → HasOtherNumbers r → IfSome o HasOtherNumbers → IfSome (cond b (Some r) o) HasOtherNumbers
chosen_numbers true r o h k = h
chosen_numbers false r o h k = k

-- a request on a machine with a granule, up to a limit
whole_numbers : (g t pages limit : ℕ) → IsGranule g → t < 2 ^ 32 → limit < 2 ^ 64 → HasOtherNumbers (whole_request g t pages limit)
whole_numbers g t pages limit fits mtype low = (mtype, low, granule_for_granule t g fits)

-- the request for a new extent of a block
extent_numbers : (g t size : ℕ) → IsGranule g → t < 2 ^ 32 → IfSome (extent_request g t size) HasOtherNumbers
extent_numbers g t size fits mtype = chosen_numbers (nat_le size max_size) (pool_request g t (pages_for size)) None (whole_numbers g t (pages_for size) page_count fits mtype (lit< tt)) tt

-- the request for the block of a list
list_numbers : (g size : ℕ) (count : Option ℕ) → IsGranule g → IfSome (list_request g size count) HasOtherNumbers
list_numbers g size None fits = tt
list_numbers g size (Some n) fits = extent_numbers g list_type (size * n) fits (omega arith)

left_numbers : {A : Type 0} (g : ℕ) → IsGranule g → (c : Call A) (answer : Reply A) → HasCallNumbers c → IfSome (left_request g c answer) HasOtherNumbers
left_numbers g fits (call.AllocatePages kind t pages memory) answer (k, mtype, count, address) =
    chosen_numbers (kind == any_pages) (whole_request g t pages page_count) (cond (kind == max_address) (Some (whole_request g t pages (pages_below memory))) None)
    (whole_numbers g t pages page_count fits mtype (lit< tt))
    (chosen_numbers (kind == max_address) (whole_request g t pages (pages_below memory)) None (whole_numbers g t pages (pages_below memory) fits mtype (omega arith)) tt)
left_numbers g fits (call.AllocatePool t size) answer (mtype, few) = extent_numbers g t size fits mtype
left_numbers g fits (call.LocateHandleBuffer search guid key) answer h = list_numbers g 8 (returned_count answer) fits
left_numbers g fits (call.OpenProtocolInformation handle guid) answer h = list_numbers g 24 (returned_count answer) fits
left_numbers g fits c answer h = tt

counted : (r : Request) (b : Bool) → nat_lt r.pages (2 ^ 64) ≡ b → HasOtherNumbers r → IfSome (option_map (λ n. r) (cond b (Some r.pages) None)) HasRequestNumbers
counted r true e (mtype, limit, granule) = record { mtype = mtype; pages = ltb-true r.pages (2 ^ 64) e; limit = limit; granule = granule }
counted r false e h = tt

if_counted_numbers : (o : Option Request) → IfSome o HasOtherNumbers → IfSome (option_and_then if_counted o) HasRequestNumbers
if_counted_numbers None h = tt
if_counted_numbers (Some r) h = counted r (nat_lt r.pages (2 ^ 64)) refl h

request_numbers : {A : Type 0} (g : ℕ) → IsGranule g → (c : Call A) (answer : Reply A) → HasCallNumbers c → IfSome (request_for g c answer) HasRequestNumbers
request_numbers g fits c answer h = if_counted_numbers (left_request g c answer) (left_numbers g fits c answer h)

no_block : (certify : Bool) (text : List ℕ) → text ++ cond certify [] [] ≡ text
no_block true text = append-nil text
no_block false text = append-nil text

module _ (ds : List Meaning) (n : ℕ) (old : State) (is : IsReached n old) (below : n < most_lines) where
  abbrev map_before : List Descriptor
  map_before = memory_map old.parts.book.memory

  entries_fit : AllByRecursion IsRecordEntry map_before
  entries_fit = record_entries old.parts.book.memory is.sound.proper is.fields

  with_block : (r : Option Request) (o : Option CertificateValue) → IfSome r HasRequestNumbers → IfSome {T = Request × CertificateValue} (option_and_then (λ r. option_map (λ c. (r, c)) o) r) (λ returned. IsAccepted map_before returned.0 returned.1) →
      IfSome {T = Request × CertificateValue} (option_and_then (λ r. option_map (λ c. (r, c)) o) r) (λ returned. IsAcceptedBlock map_before returned.0 returned.1)
  with_block None o numbers accepted = tt
  with_block (Some r) None numbers accepted = tt
  with_block (Some r) (Some c) numbers accepted = accepted_block map_before r c accepted (all_implied IsRecordEntry HasEntryNumbers entry_numbers map_before entries_fit) numbers (omega (arith, is.few))

  block_of_step : {A : Type 0} (c : Call A) (answer : Reply A) (new : State) → HasCallNumbers c → Step ds old c answer new → IfSome (certified old.parts.book.granule c answer) (λ returned. IsAcceptedBlock map_before returned.0 returned.1)
  block_of_step c answer new numbers step =
      with_block (request_for old.parts.book.granule c answer) (certificate_in answer) (request_numbers old.parts.book.granule is.sound.granules.granule c answer numbers) (accepted_reply ds old.parts is.sound.proper is.typed is.sound.granules.granule old.exited old.calls_left c answer new.parts step.answers)

  block_of_line : (A : Type 0) (number : ℕ) (asks : Result (Option (TraceCall A)) TraceFault) (text : List ℕ) (new : State) → ((c : Call A) → asks ≡ Ok (Some (trace_call.Service c)) → HasCallNumbers c) → Prints A ds true number asks old text new → PrintsAcceptedBlock A ds number asks old text new
  block_of_line A number (Ok None) text new numbers prints = tt
  block_of_line A number (Ok (Some trace_call.List)) text new numbers prints = tt
  block_of_line A number (Ok (Some (trace_call.Service c))) text new numbers (answer, step, (entries, carries, e)) = (answer, entries, step, e, block_of_step c answer new (numbers c refl) step)
  block_of_line A number (Err f) text new numbers prints = tt

  -- ---- memory maps

  map_of_step : {A : Type 0} (certify : Bool) (number size : ℕ) (returned : MapReply) (bytes : Vec ℕ A) (text : List ℕ) (new : State) → Step ds old (call.GetMemoryMap size) (reply.GetMemoryMap returned bytes) new → PrintsCall certify number old.parts.book (call.GetMemoryMap size) (reply.GetMemoryMap returned bytes) text → returned.status ≡ Success →
      ((found : Option (List Descriptor)) → ReadsRecords bytes.items found → found ≡ Some map_before) × (text ≡ reply_text number map_before (reply.GetMemoryMap returned bytes))
  map_of_step certify number size returned bytes text new step (entries, carries, e) success = (
    λ found reads. read_back map_before found entries_fit (subst (λ (bs : List ℕ). ReadsRecords bs found) (returned_bytes ds old size returned bytes new step success) reads),
    e ∙ no_block certify (reply_text number entries (reply.GetMemoryMap returned bytes)) ∙ ap (λ (entries : List Descriptor). reply_text number entries (reply.GetMemoryMap returned bytes)) (carried ds old size returned bytes new entries entries_fit step success carries),
  )

  map_of_line : (A : Type 0) (certify : Bool) (number : ℕ) (asks : Result (Option (TraceCall A)) TraceFault) (text : List ℕ) (new : State) → Prints A ds certify number asks old text new → PrintsReadMap A ds number asks old text new
  map_of_line A certify number (Ok (Some (trace_call.Service (call.GetMemoryMap size)))) text new (answer, step, prints) =
      let (returned, bytes, e, h) = step.answers in
      let same : Step ds old (call.GetMemoryMap size) (reply.GetMemoryMap returned bytes) new = subst (λ (a : Reply A). Step ds old (call.GetMemoryMap size) a new) e step in
      let printed : PrintsCall certify number old.parts.book (call.GetMemoryMap size) (reply.GetMemoryMap returned bytes) text = subst (λ (a : Reply A). PrintsCall certify number old.parts.book (call.GetMemoryMap size) a text) e prints in
      (returned, bytes, same, map_of_step certify number size returned bytes text new same printed)
  map_of_line A certify number asks text new prints = tt

-- ---- each line

module _ (A : Type 0) (ds : List Meaning) (certify : Bool) (Is : OfLine A) (of_line : (n number : ℕ) (line : List ℕ) (old : State) (text : List ℕ) (new : State) → IsReached n old → n < most_lines → Prints A ds certify number (line_of line) old text new → Is number (line_of line) old text new) where
  each_line : (n number : ℕ) (lines : List (List ℕ)) (old : State) (text : List ℕ) (new : State) → IsReached n old → n + length lines ≤ most_lines → (prints : PrintsAll A ds certify number lines old text new) → OfEachLine A ds certify Is number lines old text new prints
  each_line n number [] old text new is few prints = tt
  each_line n number (line ∷ lines) old text new is few (mid, first, rest, prints, more, e) = (
    of_line n number line old first mid is (omega arith) prints,
    each_line (n + 1) (number + 1) lines mid rest new (reached_by_line A ds certify n number (line_of line) old first mid is (named_types line) prints) (omega arith) more,
  )

  of_run : (placements : ℕ) (certifies : Bool) (file bytes : List ℕ) (machine : ListedMachine) (count : ℕ) (new : State) (before after : Option (List ℕ)) (wrote : Wrote A ds certify bytes count (prepared_state placements certifies machine.machine) new before after) → machine_of file ≡ Ok machine → count ≤ most_lines → OfEachLine A ds certify Is 1 (take count (lines_of bytes)) (prepared_state placements certifies machine.machine) wrote.text new wrote.prints
  of_run placements certifies file bytes machine count new before after wrote said few =
      each_line 0 1 (take count (lines_of bytes)) (prepared_state placements certifies machine.machine) wrote.text new (first_reached placements certifies file machine said) (omega (arith, length-take count (lines_of bytes))) wrote.prints

pub printed_blocks : {A : Type 0} (ds : List Meaning) (placements : ℕ) (certifies : Bool) (file bytes : List ℕ) (machine : ListedMachine) (count : ℕ) (new : State) (before after : Option (List ℕ)) (wrote : Wrote A ds true bytes count (prepared_state placements certifies machine.machine) new before after) → machine_of file ≡ Ok machine → count ≤ most_lines → OfEachLine A ds true (PrintsAcceptedBlock A ds) 1 (take count (lines_of bytes)) (prepared_state placements certifies machine.machine) wrote.text new wrote.prints
printed_blocks {A = A} ds = of_run A ds true (PrintsAcceptedBlock A ds) (λ n number line old text new is below prints. block_of_line ds n old is below A number (line_of line) text new (call_numbers line) prints)

pub printed_maps : {A : Type 0} (ds : List Meaning) (certify : Bool) (placements : ℕ) (certifies : Bool) (file bytes : List ℕ) (machine : ListedMachine) (count : ℕ) (new : State) (before after : Option (List ℕ)) (wrote : Wrote A ds certify bytes count (prepared_state placements certifies machine.machine) new before after) → machine_of file ≡ Ok machine → count ≤ most_lines → OfEachLine A ds certify (PrintsReadMap A ds) 1 (take count (lines_of bytes)) (prepared_state placements certifies machine.machine) wrote.text new wrote.prints
printed_maps {A = A} ds certify = of_run A ds certify (PrintsReadMap A ds) (λ n number line old text new is below prints. map_of_line ds n old is below A certify number (line_of line) text new prints)
