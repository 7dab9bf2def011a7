-- The value of a flag, and why no command is one of the words.
use Rattle.std.proofs.Common.{◌≡◌, ◌≢◌, ◌⊎◌, ◌∙◌, Bool, true, false, List, ◌∷◌, MatchBool, codes, Option, Some, None, Result, Ok, Err, IfErr, IfOk, [], option_map, get_or, refl, sym, ap, subst, unwrap_or, arith, inl, inr}
use Rattle.std.specs.Str.Parse.{ParsesBool}
use Rattle.clap.specs.Words.{ReadsOne, Row, Text, first_of, first_value, one_of, one_text, rows_of, kind_of, subcommand_of, HasKind, IsAmong, Kinds}
use Rattle.clap.specs.declared.parser.matches.Found.{Found}
use Rattle.std.specs.Borrow.{Bor}
use Rattle.clap.specs.Faults.{fault_of as clap_fault}
use Rattle.clap.specs.declared.error.Error.{Error}
use Rattle.clap.specs.declared.error.kind.ErrorKind.{ErrorKind}
use Rattle.clap.specs.declared.error.kind.ErrorKind.TheVariants as kind
use Rattle.command_line.proofs.VersionRequests.{asks_alone}
use Rattle.clap.proofs.WalkLemmas.{first_value-rows, one_text-rows}
use Rattle.command_line.specs.Words.{HasReason, IsCommandOf, IsFoundCommand, IsNamed, IsNone, program_words}
use Rattle.command_line.specs.declared.commands.Command.{Command}
use Rattle.command_line.specs.declared.commands.Command.TheVariants as command
use Rattle.command_line.specs.declared.commands.CommandFault.{CommandFault}
use Rattle.command_line.specs.declared.commands.CommandFault.TheVariants as fault

module _ (E : Type 0) where
  -- read from a text: it is set where the text is `true`
  flag_read : (o : Option Text) (r : Option Bool) → (o ≡ None → r ≡ None) → ((t : Text) → o ≡ Some t → ReadsOne {T = Bool} {E = E} ParsesBool t r) → MatchBool (unwrap_or r false) (o ≡ Some (codes "true")) (o ≢ Some (codes "true"))
  flag_read None r none value = rw (none refl) (λ e. cc)
  flag_read (Some t) (Some true) none value = ap Some (value t refl)
  flag_read (Some t) (Some false) none value = λ e. let f = value t refl in cc
  flag_read (Some t) None none value = λ e. let f = value t refl in f.1.0 cc

  -- read from the matches
  pub flag_given : (f : Found) (id : Text) (r : Option Bool) (b : Bool) → b ≡ unwrap_or r false → (one_text f id ≡ None → r ≡ None) → ((t : Text) → one_text f id ≡ Some t → ReadsOne {T = Bool} {E = E} ParsesBool t r) → MatchBool b (one_of id (rows_of f) ≡ Some (codes "true")) (one_of id (rows_of f) ≢ Some (codes "true"))
  flag_given f id r b is none value =
      let read = subst (λ (o : Option Text). MatchBool (unwrap_or r false) (o ≡ Some (codes "true")) (o ≢ Some (codes "true"))) (one_text-rows f id) (flag_read (one_text f id) r none value) in
      subst (λ (x : Bool). MatchBool x (one_of id (rows_of f) ≡ Some (codes "true")) (one_of id (rows_of f) ≢ Some (codes "true"))) (sym is) read

-- what holds is a reason for any fault
pub has_reason : (P : Type 0) (e : CommandFault) → P → HasReason P e
has_reason P (fault.Usage text) p = p
has_reason P fault.OutOfMemory p = tt

module _ (P Q : Type 0) (gives : P → Q) where
  -- a reason gives another
  pub reason_gives : (e : CommandFault) → HasReason P e → HasReason Q e
  reason_gives (fault.Usage text) h = gives h
  reason_gives fault.OutOfMemory h = tt

  -- and so of what was returned
  pub refusal_gives : (r : Result Command CommandFault) → IfErr r (HasReason P) → IfErr r (HasReason Q)
  refusal_gives (Ok command) h = tt
  refusal_gives (Err e) h = reason_gives e h

-- the names are two
run_is_not_check : codes "run" ≡ codes "check" → ⊥
run_is_not_check e = let first : 114 ≡ 99 = ap (λ (t : Text). get_or t 0 0) e in absurd (omega (arith, first))

-- a run has both files
pub no_run : (rows : List Row) → (first_of (codes "machine") rows ≡ None) ⊎ (first_of (codes "trace") rows ≡ None) → IsNone (IsNamed (codes "run") rows)
no_run rows (inl e) (command.Run machine trace certify) named = let there = named.1 in cc
no_run rows (inr e) (command.Run machine trace certify) named = let there = named.2 in cc
no_run rows e command.Check named = run_is_not_check named
no_run rows e command.Version named = absurd named

-- a text that the matches do not have is in no row
pub no_text : (f : Found) (id : Text) (o : Option (Bor Text)) → option_map (λ (s : Bor Text). s.now) o ≡ first_value f id → o ≡ None → first_of id (rows_of f) ≡ None
no_text f id o h none = sym (first_value-rows f id) ∙ sym h ∙ ap (option_map (λ (s : Bor Text). s.now)) none

module _ (words : List Text) where
  -- what was found in words without a fault is their command
  pub command_found : (found : Option (Text × List Row)) (r : Result Command CommandFault) → found ≡ subcommand_of program_words words → clap_fault program_words words ≡ [] → IfOk r (IsFoundCommand found) → IfOk r (IsCommandOf words)
  command_found found (Ok command) same taken h = inl (taken, subst (λ (f : Option (Text × List Row)). IsFoundCommand f command) same h)
  command_found found (Err e) same taken h = tt

  -- where nothing is found there is no command
  pub nothing_found : (found : Option (Text × List Row)) → found ≡ subcommand_of program_words words → clap_fault program_words words ≡ [] → IsNone (IsFoundCommand found) → IsNone (IsCommandOf words)
  nothing_found found same taken none command (inl is) = none command (subst (λ (f : Option (Text × List Row)). IsFoundCommand f command) (sym same) is.1)
  nothing_found found same taken none command (inr is) = let lost : [] ≡ kind.DisplayVersion ∷ [] = sym taken ∙ is.0 in cc

  -- words that `clap` finds a fault with are no command
  pub fault_found : (kinds : Kinds) (error : Error) → kinds ≡ clap_fault program_words words → HasKind kinds error → kind_of error ≢ kind.DisplayVersion → kind_of error ≢ kind.OutOfMemory → IsNone (IsCommandOf words)
  fault_found kinds error same (inl memory) unasked other command is = other memory
  fault_found kinds error same (inr among) unasked other command (inl is) = subst (λ (ks : Kinds). IsAmong (kind_of error) ks) (same ∙ is.0) among
  fault_found kinds error same (inr among) unasked other command (inr is) = only (subst (λ (ks : Kinds). IsAmong (kind_of error) ks) (same ∙ is.0) among)
    where
      only : IsAmong (kind_of error) (kind.DisplayVersion ∷ []) → ⊥
      only (inl e) = unasked e
      only (inr h) = h

  -- an error that asks for the version is found in words that ask for it
  pub version_found : (kinds : Kinds) (error : Error) → kinds ≡ clap_fault program_words words → HasKind kinds error → kind_of error ≡ kind.DisplayVersion → IsCommandOf words command.Version
  version_found kinds error same (inl memory) asks = let lost : kind.DisplayVersion ≡ kind.OutOfMemory = sym asks ∙ memory in cc
  version_found kinds error same (inr among) asks =
      let asked : IsAmong (kind_of error) (clap_fault program_words words) = subst (λ (ks : Kinds). IsAmong (kind_of error) ks) same among in
      inr (asks_alone program_words words (subst (λ (k : ErrorKind). IsAmong k (clap_fault program_words words)) asks asked), refl)

  -- what an error of `clap` asks for is the command of the words
  pub version_taken : (kinds : Kinds) (error : Error) (r : Result Command CommandFault) → kinds ≡ clap_fault program_words words → HasKind kinds error
      → IfOk r (λ given. (kind_of error ≡ kind.DisplayVersion) × (given ≡ command.Version)) → IfOk r (IsCommandOf words)
  version_taken kinds error (Ok given) same has h = subst (IsCommandOf words) (sym h.1) (version_found kinds error same has h.0)
  version_taken kinds error (Err e) same has h = tt

  -- and where it asks for none, there is none
  pub version_refused : (kinds : Kinds) (error : Error) (r : Result Command CommandFault) → kinds ≡ clap_fault program_words words → HasKind kinds error
      → IfErr r (λ e. (kind_of error ≢ kind.DisplayVersion) × HasReason (kind_of error ≢ kind.OutOfMemory) e) → IfErr r (HasReason (IsNone (IsCommandOf words)))
  version_refused kinds error (Ok given) same has h = tt
  version_refused kinds error (Err e) same has h = reason_gives (kind_of error ≢ kind.OutOfMemory) (IsNone (IsCommandOf words)) (fault_found kinds error same has h.0) e h.1
