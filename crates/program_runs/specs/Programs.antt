-- What the program does with its arguments: the files that it opens, what it writes, and the status
-- that it ends with.
use Rattle.std.specs.Prelude.{◌≡◌, ◌≢◌, ◌⊎◌, ℕ, Bool, true, false, List, [], ◌∷◌, ◌++◌, String, string_bytes, map, Option, Some, IfSome, Result, Ok, Err, MatchResult}
use Rattle.std.specs.declared.alloc.Global.{Global}
use Rattle.std.specs.declared.vec.IntoIter.{IntoIter}
use Rattle.std.specs.Vec.Iter.{into_iter_items}
use Rattle.std.specs.IoError.{error_kind}
use Rattle.std.specs.declared.io.Error.{Error}
use Rattle.std.specs.declared.io.ErrorKind.{ErrorKind}
use Rattle.std.specs.declared.io.ErrorKind.TheVariants.{OutOfMemory}
use Rattle.command_line.specs.declared.commands.Command.{Command}
use Rattle.command_line.specs.declared.commands.Command.TheVariants as command
use Rattle.command_line.specs.declared.commands.CommandFault.{CommandFault}
use Rattle.command_line.specs.declared.commands.CommandFault.TheVariants as command_fault
use Rattle.command_line.specs.Words.{IsCommandOf, IsRefusedBy}
use Rattle.program_runs.specs.declared.serve.Fault.{Fault}
use Rattle.program_runs.specs.declared.serve.Fault.TheVariants as fault
use Rattle.program_runs.specs.Serving.{ChecksBlock, PrintsVersion, RunsFiles, status_of, fault_status, usage_status}

-- ---- files

-- the bytes of the file at each path, where they are known
abbrev pub Files : Type 0
Files = List ℕ → Option (List ℕ)

-- a path that was to be opened, and whether it was
pub record Opening : Type 0 where
  pub path : List ℕ
  pub is_open : Bool

-- the openings so far, where they are known, and then these
abbrev pub Opens : Option (List Opening) → List Opening → Option (List Opening) → Type 0
Opens old openings new = IfSome old (λ before. new ≡ Some (before ++ openings))

-- The files that are opened, one after another, and what is written are as the relation says.
abbrev pub Effects : {F W R : Type 0}
    → (List Opening → Option (List ℕ) → Option (List ℕ) → R → Type 0)
    → (F → Option (List Opening)) → F → F → (W → Option (List ℕ)) → W → W → R → Type 0
Effects Relation opened files_before files_after contents before after result =
    (openings : List Opening) × Opens (opened files_before) openings (opened files_after)
    × Relation openings (contents before) (contents after) result

-- one opening
abbrev pub opening : List ℕ → Bool → List Opening
opening path is_open = record { path = path; is_open = is_open } ∷ []

abbrev pub is_ok : {A E : Type 0} → Result A E → Bool
is_ok (Ok x) = true
is_ok (Err e) = false

-- ---- commands

-- How a run of the files at two paths ends. The machine file is opened first, and then the trace; a
-- file that cannot be opened is the fault of reading it, and then nothing is written.
abbrev pub RunsPaths : Files → Bool → List ℕ → List ℕ → List Opening → Option (List ℕ)
    → Option (List ℕ) → Result (Unit {0}) Fault → Type 0
RunsPaths files certify machine trace openings before after end =
    ((openings ≡ opening machine false) × (end ≡ Err fault.CannotReadMachine) × (after ≡ before))
    ⊎ (((openings ≡ opening machine true ++ opening trace false)
    × (end ≡ Err fault.CannotReadTrace) × (after ≡ before))
    ⊎ ((openings ≡ opening machine true ++ opening trace true)
    × IfSome (files machine) (λ file. RunsFiles certify file (files trace) before after end)))

-- What a command does: the files that it opens, what it writes, and its status. `check` opens none
-- and judges the input; a request for the version opens none.
abbrev pub Does : Files → Option (List ℕ) → Command → List Opening → Option (List ℕ)
    → Option (List ℕ) → ℕ → Type 0
Does files input (command.Run machine trace certify) openings before after status =
    (end : Result (Unit {0}) Fault) × (status ≡ status_of end)
    × RunsPaths files certify machine.now trace.now openings before after end
Does files input command.Check openings before after status =
    (openings ≡ []) × ChecksBlock input before after status
Does files input command.Version openings before after status =
    (openings ≡ []) × PrintsVersion before after status

-- ---- words

-- 2 where the words are no command, 1 where memory ran out
abbrev pub refusal_status : CommandFault → ℕ
refusal_status (command_fault.Usage text) = usage_status
refusal_status command_fault.OutOfMemory = 1

-- What the program does for the words of its command line: what their command does. For other words
-- it opens no file and writes no reply.
abbrev pub DoesAsAsked : List (List ℕ) → Files → Option (List ℕ) → List Opening → Option (List ℕ)
    → Option (List ℕ) → ℕ → Type 0
DoesAsAsked words files input openings before after status =
    (read : Result Command CommandFault) × MatchResult read
    (λ command. IsCommandOf words command × Does files input command openings before after status)
    (λ fault. IsRefusedBy words fault × (openings ≡ []) × (after ≡ before)
    × (status ≡ refusal_status fault))

-- the bytes of texts
abbrev pub texts_as_bytes : {A : Type 0} → List (String A) → List (List ℕ)
texts_as_bytes texts = map (λ text. string_bytes text) texts

-- The status where the arguments could not be read: 1 where memory ran out, else 2, since one of
-- them is not UTF-8.
abbrev pub IsLostStatus : ErrorKind → ℕ → Type 0
IsLostStatus kind status =
    ((kind ≡ OutOfMemory) × (status ≡ fault_status))
    ⊎ ((kind ≢ OutOfMemory) × (status ≡ usage_status))

-- the same for texts
abbrev pub ServesTexts : {A : Type 0} → List (String A) → Files → Option (List ℕ) → List Opening
    → Option (List ℕ) → Option (List ℕ) → ℕ → Type 0
ServesTexts texts files input openings before after status =
    DoesAsAsked (texts_as_bytes texts) files input openings before after status

-- What the program does for its arguments: what their words ask for; where they could not be read it
-- opens no file and writes no reply.
abbrev pub ServesArguments : Files → Option (List ℕ)
    → Result (IntoIter (String Global) Global) Error
    → List Opening → Option (List ℕ) → Option (List ℕ) → ℕ → Type 0
ServesArguments files input arguments openings before after status =
    MatchResult arguments
    (λ texts. DoesAsAsked
    (texts_as_bytes (into_iter_items texts)) files input openings before after status)
    (λ error. (openings ≡ []) × (after ≡ before) × IsLostStatus (error_kind error) status)
