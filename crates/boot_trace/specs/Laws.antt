-- The laws of what a run prints. Each is the contract of a public function.
use Rattle.std.specs.Prelude.{◌≡◌, ◌≤◌, ℕ, ◌+◌, Bool, true, List, [], ◌∷◌, ◌++◌, take, Option, Some, IfSome, Result, Ok, Vec}
use Rattle.std.specs.List.{AllByRecursion}
use Rattle.page_ranges.specs.declared.ranges.Descriptor.{Descriptor}
use Rattle.page_ranges.specs.declared.statuses.Status.TheVariants.{Success}
use Rattle.page_ranges.specs.MemoryMap.{memory_map}
use Rattle.certificate_blocks.specs.BlockLaws.{IsAcceptedBlock}
use Rattle.map_keys.specs.declared.memory_maps.MapReply.{MapReply}
use Rattle.map_keys.specs.Records.{IsRecordEntry, ReadsRecords}
use Rattle.driver_connect.specs.Drivers.{Meaning}
use Rattle.boot_calls.specs.declared.calls.Call.TheVariants as call
use Rattle.boot_replies.specs.declared.replies.Reply.{Reply}
use Rattle.boot_replies.specs.declared.replies.Reply.TheVariants as reply
use Rattle.boot_replies.specs.Certified.{certified}
use Rattle.boot_core.specs.Machines.{State, prepared_state}
use Rattle.boot_core.specs.Steps.{Step}
use Rattle.machine_files.specs.MachineText.{ListedMachine, machine_of}
use Rattle.trace_lines.specs.declared.faults.TraceFault.{TraceFault}
use Rattle.trace_lines.specs.declared.lines.TraceCall.{TraceCall}
use Rattle.trace_lines.specs.declared.lines.TraceCall.TheVariants as trace_call
use Rattle.trace_lines.specs.TraceLine.{line_of}
use Rattle.text_lines.specs.Lines.{lines_of}
use Rattle.reply_texts.specs.CallText.{CarriesEntries, certificate_text}
use Rattle.reply_texts.specs.PrintedText.{reply_text}
use Rattle.boot_trace.specs.TraceRuns.{PrintsAll, Wrote, most_lines}

-- what is said of a line with this number: what it asks for, the state before it, its text and the
-- state after it
abbrev pub OfLine : Type 0 → Type 1
OfLine A = ℕ → Result (Option (TraceCall A)) TraceFault → State → List ℕ → State → Type 0

-- it holds of each of the lines that printed the text
abbrev pub OfEachLine : (A : Type 0) (ds : List Meaning) (certify : Bool) (Is : OfLine A)
    (number : ℕ) (lines : List (List ℕ)) (old : State) (text : List ℕ) (new : State)
    → PrintsAll A ds certify number lines old text new → Type 0
OfEachLine A ds certify Is number [] old text new done = Unit {0}
OfEachLine A ds certify Is number (line ∷ lines) old text new
    (mid, first, rest, prints, more, whole) =
    Is number (line_of line) old first mid
    × OfEachLine A ds certify Is (number + 1) lines mid rest new more

-- it holds of each line whose text a run on a machine file and a trace wrote, whether the core
-- returns certificates or not, and for however many placements it has memory reserved ahead
abbrev pub OfRun : (A : Type 0) → List Meaning → Bool → OfLine A → Type 0
OfRun A ds certify Is =
    (placements : ℕ) (certifies : Bool) (file bytes : List ℕ) (machine : ListedMachine)
    (count : ℕ) (new : State) (before after : Option (List ℕ))
    (wrote : Wrote A ds certify bytes count
    (prepared_state placements certifies machine.machine) new before after) →
    machine_of file ≡ Ok machine → count ≤ most_lines
    → OfEachLine A ds certify Is 1 (take count (lines_of bytes))
    (prepared_state placements certifies machine.machine) wrote.text new wrote.prints

-- ---- certificates

-- What a call prints is the lines of its reply and, where that carries a certificate, a block: of
-- the memory map before the call, the call's request and the certificate. The block is read back as
-- these, and its check says that it is accepted.
abbrev pub PrintsAcceptedBlock : (A : Type 0) → List Meaning → OfLine A
PrintsAcceptedBlock A ds number (Ok (Some (trace_call.Service c))) old text new =
    (answer : Reply A) × (entries : List Descriptor) × Step ds old c answer new
    × (text ≡ reply_text number entries answer
    ++ certificate_text (memory_map old.parts.book.memory)
    (certified old.parts.book.granule c answer)) ×
    IfSome (certified old.parts.book.granule c answer)
    (λ returned. IsAcceptedBlock (memory_map old.parts.book.memory) returned.0 returned.1)
PrintsAcceptedBlock A ds number asks old text new = Unit {0}

-- So it is of each call of a run with certificates.
abbrev pub PrintedBlocksLaw : Type 0 → Type 0
PrintedBlocksLaw A = (ds : List Meaning) → OfRun A ds true (PrintsAcceptedBlock A ds)

-- ---- memory maps

-- The bytes that a GetMemoryMap wrote are read as the memory map, and the lines of its entries are
-- printed.
abbrev pub PrintsReadMap : (A : Type 0) → List Meaning → OfLine A
PrintsReadMap A ds number (Ok (Some (trace_call.Service (call.GetMemoryMap size)))) old text new =
    (returned : MapReply) × (bytes : Vec ℕ A)
    × Step ds old (call.GetMemoryMap size) (reply.GetMemoryMap returned bytes) new ×
    (returned.status ≡ Success
    → ((found : Option (List Descriptor)) → ReadsRecords bytes.items found
    → found ≡ Some (memory_map old.parts.book.memory))
    × (text ≡ reply_text number (memory_map old.parts.book.memory)
    (reply.GetMemoryMap returned bytes)))
PrintsReadMap A ds number asks old text new = Unit {0}

-- So it is of each call of a run.
abbrev pub PrintedMapsLaw : Type 0 → Type 0
PrintedMapsLaw A = (ds : List Meaning) (certify : Bool) → OfRun A ds certify (PrintsReadMap A ds)

-- The entries that a successful GetMemoryMap carries are those of the memory map, where records can
-- spell them.
abbrev pub MapEntriesLaw : Type 0 → Type 0
MapEntriesLaw A =
    (ds : List Meaning) (old : State) (size : ℕ) (returned : MapReply) (bytes : Vec ℕ A)
    (new : State) (entries : List Descriptor) →
    AllByRecursion IsRecordEntry (memory_map old.parts.book.memory)
    → Step ds old (call.GetMemoryMap size) (reply.GetMemoryMap returned bytes) new
    → returned.status ≡ Success →
    CarriesEntries (reply.GetMemoryMap returned bytes) entries
    → entries ≡ memory_map old.parts.book.memory
