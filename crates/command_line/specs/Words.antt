-- What the words of a command line ask for, as `clap` reads them.
use Rattle.std.specs.Prelude.{◌≡◌, ◌≢◌, ◌⊎◌, Bool, MatchBool, List, [], ◌∷◌, codes, Option, Some, true}
use Rattle.clap.specs.declared.builder.action.ArgAction.TheVariants.{Set, SetTrue}
use Rattle.clap.specs.Words.{App, Row, Rule, Text, first_of, new_app, new_rule, one_of, subcommand_of, with_rule, with_subcommand}
use Rattle.clap.specs.Faults.{fault_of as clap_fault}
use Rattle.clap.specs.Simple.{on_top}
use Rattle.clap.specs.declared.error.kind.ErrorKind.TheVariants.{DisplayVersion}
use Rattle.command_line.specs.declared.commands.Command.{Command}
use Rattle.command_line.specs.declared.commands.Command.TheVariants as command
use Rattle.command_line.specs.declared.commands.CommandFault.{CommandFault}
use Rattle.command_line.specs.declared.commands.CommandFault.TheVariants as fault

-- an option that must be given, with a file
abbrev pub file_option : Text → Rule
file_option name =
    record (new_rule name) { long = Some name; action = Some Set; value_names = 1; required = true }

-- an option that may be given, without a value
abbrev pub flag : Text → Rule
flag name = record (new_rule name) { long = Some name; action = Some SetTrue }

-- `run`, with its machine file
abbrev pub machine_words : App
machine_words = with_rule (new_app (codes "run")) (file_option (codes "machine"))

-- and its trace
abbrev pub file_words : App
file_words = with_rule machine_words (file_option (codes "trace"))

-- and the option for certificates
abbrev pub run_words : App
run_words = with_rule file_words (flag (codes "certify"))

-- `check`, which has none
abbrev pub check_words : App
check_words = new_app (codes "check")

-- the program's name; one of its commands must be asked for, or its version
abbrev pub bare_words : App
bare_words =
    on_top
    (λ s. record s { has_version = true; subcommand_required = true }) (new_app (codes "bootcore"))

-- the program, with both commands
abbrev pub program_words : App
program_words = with_subcommand (with_subcommand bare_words run_words.top) check_words.top

-- whether the option for certificates is given
abbrev pub IsCertify : List Row → Bool → Type 0
IsCertify options certify = let value = one_of (codes "certify") options in
    MatchBool certify (value ≡ Some (codes "true")) (value ≢ Some (codes "true"))

-- the command is the subcommand of this name, with its options' values
abbrev pub IsNamed : Text → List Row → Command → Type 0
IsNamed name options (command.Run machine trace certify) =
    (name ≡ codes "run") × (first_of (codes "machine") options ≡ Some machine.now)
    × (first_of (codes "trace") options ≡ Some trace.now) × IsCertify options certify
IsNamed name options command.Check = name ≡ codes "check"
IsNamed name options command.Version = ⊥

-- the command is the subcommand that was found, if one was, with its options' values
abbrev pub IsFoundCommand : Option (Text × List Row) → Command → Type 0
IsFoundCommand found command =
    (name : Text) × (options : List Row) × (found ≡ Some (name, options))
    × IsNamed name options command

-- `clap` finds no fault with the words, and the command is what it finds in them
abbrev pub IsSubcommandOf : List Text → Command → Type 0
IsSubcommandOf words command =
    (clap_fault program_words words ≡ [])
    × IsFoundCommand (subcommand_of program_words words) command

-- `clap` finds that the words ask for the version, and the command prints it
abbrev pub IsVersionOf : List Text → Command → Type 0
IsVersionOf words asked =
    (clap_fault program_words words ≡ DisplayVersion ∷ []) × (asked ≡ command.Version)

-- the words ask for the command
abbrev pub IsCommandOf : List Text → Command → Type 0
IsCommandOf words command = IsSubcommandOf words command ⊎ IsVersionOf words command

-- no command is such
abbrev pub IsNone : (Command → Type 0) → Type 0
IsNone IsOne = (command : Command) → IsOne command → ⊥

-- a fault of the words has this reason; one of memory needs none
abbrev pub HasReason : Type 0 → CommandFault → Type 0
HasReason Reason (fault.Usage text) = Reason
HasReason Reason fault.OutOfMemory = Unit {0}

-- no command is that of the words, or memory ran out
abbrev pub IsRefusedBy : List Text → CommandFault → Type 0
IsRefusedBy words = HasReason (IsNone (IsCommandOf words))
