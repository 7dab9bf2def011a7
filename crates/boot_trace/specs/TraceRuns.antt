-- What a trace prints, and how it leaves the machine.
use Rattle.std.specs.Prelude.{◌≡◌, ◌⊎◌, ℕ, ◌+◌, ◌<◌, ◌≤◌, Bool, List, [], ◌∷◌, ◌++◌, length, map, take, Option, Some, None, IfSome, Result, Ok, Err}
use Rattle.std.specs.Io.KnownBytes.{Appends}
use Rattle.page_ranges.specs.MemoryMap.{memory_map}
use Rattle.driver_connect.specs.Drivers.{Meaning}
use Rattle.boot_replies.specs.declared.replies.Reply.{Reply}
use Rattle.boot_calls.specs.declared.calls.Call.{Call}
use Rattle.boot_core.specs.Machines.{CoreValue, State}
use Rattle.boot_core.specs.Steps.{Step}
use Rattle.trace_lines.specs.declared.lines.TraceCall.{TraceCall}
use Rattle.trace_lines.specs.declared.lines.TraceCall.TheVariants as trace_call
use Rattle.trace_lines.specs.declared.run_faults.RunFault.{RunFault}
use Rattle.trace_lines.specs.declared.run_faults.RunFault.TheVariants as fault
use Rattle.trace_lines.specs.declared.faults.TraceFault.{TraceFault}
use Rattle.text_lines.specs.Lines.{lines_of}
use Rattle.reply_texts.specs.CallText.{PrintsCall}
use Rattle.reply_texts.specs.PrintedText.{list_text}
use Rattle.trace_lines.specs.TraceLine.{line_of}

-- What a line asks for prints this text, and takes the machine from one state to another: a call,
-- by a step of the machine with the reply that is printed; a listing and a skipped line leave it as
-- it is.
abbrev pub Prints : (A : Type 0) → List Meaning → Bool → ℕ
    → Result (Option (TraceCall A)) TraceFault → State → List ℕ → State → Type 0
Prints A ds certify number (Ok None) old text new = (text ≡ []) × (new ≡ old)
Prints A ds certify number (Ok (Some trace_call.List)) old text new =
    (text ≡ list_text number (memory_map old.parts.book.memory)) × (new ≡ old)
Prints A ds certify number (Ok (Some (trace_call.Service c))) old text new =
    (answer : Reply A) × Step ds old c answer new
    × PrintsCall certify number old.parts.book c answer text
Prints A ds certify number (Err e) old text new = ⊥

-- a line that asks for this call
abbrev pub asking : {A : Type 0} → Call A → Result (Option (TraceCall A)) TraceFault
asking c = Ok (Some (trace_call.Service c))

-- the line asks for a call
abbrev pub AsksForCall : (A : Type 0) → Result (Option (TraceCall A)) TraceFault → Type 0
AsksForCall A (Ok (Some (trace_call.Service c))) = Unit {0}
AsksForCall A asks = ⊥

-- the line's call takes the machine from one state to another
abbrev pub MakesCall : (A : Type 0) → List Meaning → Result (Option (TraceCall A)) TraceFault
    → State → State → Type 0
MakesCall A ds (Ok (Some (trace_call.Service c))) old new =
    (answer : Reply A) × Step ds old c answer new
MakesCall A ds asks old new = ⊥

-- Why a line that is read so stops a run, and how it leaves the machine: as it was, or, where
-- memory ran out, perhaps after the call was made.
abbrev pub StopsAt : (A : Type 0) → List Meaning → Bool → RunFault → ℕ
    → Result (Option (TraceCall A)) TraceFault → State → State → Type 0
StopsAt A ds certify (fault.Line n e) number asks old new =
    (n ≡ number) × (asks ≡ Err e) × (new ≡ old)
StopsAt A ds certify fault.NoCallsLeft number asks old new =
    AsksForCall A asks × (old.calls_left ≡ 0) × (new ≡ old)
StopsAt A ds certify fault.OutOfMemory number asks old new =
    (new ≡ old) ⊎ MakesCall A ds asks old new
StopsAt A ds certify e number asks old new = ⊥

-- The lines, the first of which has this number, print this text, one after another.
abbrev pub PrintsAll : Type 0 → List Meaning → Bool → ℕ → List (List ℕ) → State → List ℕ → State
    → Type 0
PrintsAll A ds certify number [] old text new = (text ≡ []) × (new ≡ old)
PrintsAll A ds certify number (line ∷ lines) old text new =
    (mid : State) × (first : List ℕ) × (rest : List ℕ)
    × Prints A ds certify number (line_of line) old first mid
    × PrintsAll A ds certify (number + 1) lines mid rest new × (text ≡ first ++ rest)

-- The text of a number of first lines of the bytes was written, and nothing else.
pub record Wrote (A : Type 0) (ds : List Meaning) (certify : Bool) (bytes : List ℕ) (count : ℕ)
    (old new : State) (before after : Option (List ℕ)) : Type 0 where
  pub text : List ℕ
  pub prints : PrintsAll A ds certify 1 (take count (lines_of bytes)) old text new
  pub written : Appends before after text

-- the most lines of a trace
abbrev pub most_lines : ℕ
most_lines = 1000000

-- the line that a number of lines come before
pub record HasLine (bytes : List ℕ) (count : ℕ) (line : List ℕ) : Type 0 where
  pub front : List (List ℕ)
  pub rest : List (List ℕ)
  pub whole : lines_of bytes ≡ front ++ line ∷ rest
  pub counted : length front ≡ count

-- The text of a number of first lines was written whole, and of the text of the next a front.
pub record WroteFront (A : Type 0) (ds : List Meaning) (certify : Bool) (bytes : List ℕ)
    (count : ℕ) (old new : State) (before after : Option (List ℕ)) : Type 0 where
  pub mid : State
  pub middle : Option (List ℕ)
  pub whole : Wrote A ds certify bytes count old mid before middle
  pub line : List ℕ
  pub here : HasLine bytes count line
  pub text : List ℕ
  pub prints : Prints A ds certify (count + 1) (line_of line) mid text new
  pub taken : ℕ
  pub written : Appends middle after (take taken text)

-- The text of a number of first lines was written; the next line's call may have been made, and
-- nothing of it is written.
pub record WroteBefore (A : Type 0) (ds : List Meaning) (certify : Bool) (bytes : List ℕ)
    (count : ℕ) (old new : State) (before after : Option (List ℕ)) : Type 0 where
  pub mid : State
  pub whole : Wrote A ds certify bytes count old mid before after
  pub next : (new ≡ mid)
      ⊎ ((line : List ℕ) × HasLine bytes count line × MakesCall A ds (line_of line) mid new)

-- How a run on a trace of known bytes ends. What is written is the text of all its lines, or of
-- those before the one that stopped the run, and the machine is in the state after their calls. No
-- line after the last that may be is looked at.
abbrev pub Ends : Type 0 → List Meaning → Bool → List ℕ → State → State → Option (List ℕ)
    → Option (List ℕ) → Result (Unit {0}) RunFault → Type 0
Ends A ds certify bytes old new before after (Ok done) =
    (length (lines_of bytes) ≤ most_lines)
    × Wrote A ds certify bytes (length (lines_of bytes)) old new before after
Ends A ds certify bytes old new before after (Err (fault.Line number e)) =
    (count : ℕ) × (count < most_lines) × (number ≡ count + 1)
    × ((line : List ℕ) × HasLine bytes count line × (line_of {A = A} line ≡ Err e))
    × Wrote A ds certify bytes count old new before after
Ends A ds certify bytes old new before after (Err fault.TooManyLines) =
    (most_lines < length (lines_of bytes))
    × Wrote A ds certify bytes most_lines old new before after
Ends A ds certify bytes old new before after (Err fault.NoCallsLeft) =
    (count : ℕ) × (count < most_lines)
    × ((line : List ℕ) × HasLine bytes count line × AsksForCall A (line_of line))
    × (new.calls_left ≡ 0) × Wrote A ds certify bytes count old new before after
Ends A ds certify bytes old new before after (Err fault.Read) =
    (count : ℕ) × (count ≤ most_lines) × Wrote A ds certify bytes count old new before after
Ends A ds certify bytes old new before after (Err fault.Write) =
    (count : ℕ) × (count < most_lines) × WroteFront A ds certify bytes count old new before after
Ends A ds certify bytes old new before after (Err fault.OutOfMemory) =
    (count : ℕ) × (count < most_lines) × WroteBefore A ds certify bytes count old new before after

-- ---- the same of a core, with drivers that answer as its own

abbrev pub CorePrints : {D : Type 0} → (A : Type 0) → (D → Meaning) → Bool → ℕ
    → Result (Option (TraceCall A)) TraceFault → CoreValue D → List ℕ → CoreValue D → Type 0
CorePrints A meaning certify number asks old text new =
    Prints A (map meaning old.given.drivers) certify number asks old.state text new.state

abbrev pub CoreStopsAt : {D : Type 0} → (A : Type 0) → (D → Meaning) → Bool → RunFault → ℕ
    → Result (Option (TraceCall A)) TraceFault → CoreValue D → CoreValue D → Type 0
CoreStopsAt A meaning certify fault number asks old new =
    StopsAt A (map meaning old.given.drivers) certify fault number asks old.state new.state

abbrev pub CoreEnds : {D : Type 0} → (A : Type 0) → (D → Meaning) → Bool → Option (List ℕ)
    → CoreValue D → CoreValue D → Option (List ℕ) → Option (List ℕ) → Result (Unit {0}) RunFault
    → Type 0
CoreEnds A meaning certify bytes old new before after end =
    IfSome bytes
    (λ known. Ends A (map meaning old.given.drivers) certify known old.state new.state before after
    end)
