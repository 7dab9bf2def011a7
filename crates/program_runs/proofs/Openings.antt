-- Openings one after another, and texts of which a front is written.
use Rattle.std.proofs.Common.{◌≡◌, ℕ, Bool, List, [], ◌++◌, length, take, Option, Some, None, Result, Ok, Err, OnOk, OnErr, IfSome, refl, sym, ap, ◌∙◌, subst, append-nil, append_assoc, take_all, arith}
use Rattle.std.specs.Io.KnownBytes.{Appends}
use Rattle.program_runs.specs.declared.serve.Fault.{Fault}
use Rattle.program_runs.specs.declared.serve.Fault.TheVariants as run_fault
use Rattle.text_lines.specs.Printed.{WritesFront}
use Rattle.program_runs.specs.Serving.{RunsFiles}
use Rattle.command_line.specs.declared.commands.CommandFault.{CommandFault}
use Rattle.command_line.specs.Words.{IsRefusedBy}
use Rattle.program_runs.specs.Programs.{Files, Opening, Opens, DoesAsAsked}

pub none_opened : (old : Option (List Opening)) → Opens old [] old
none_opened None = tt
none_opened (Some before) = ap Some (sym (append-nil before))

pub both_opened : (old mid new : Option (List Opening)) (a b : List Opening) → Opens old a mid → Opens mid b new → Opens old (a ++ b) new
both_opened None mid new a b first second = tt
both_opened (Some before) mid new a b first second =
    subst (λ (m : Option (List Opening)). Opens m b new) first second ∙ ap Some (append_assoc before a b)

-- what was written whole, or a front of it, is a front of it
pub front_written : {A E : Type 0} (result : Result A E) (before after : Option (List ℕ)) (text : List ℕ) → OnOk result (Appends before after text) → OnErr result ((count : ℕ) × Appends before after (take count text)) → WritesFront before text after
front_written (Ok done) before after text whole front = (length text, rw (take_all (length text) text (omega arith)) whole)
front_written (Err e) before after text whole front = front

-- the same words are refused alike
pub refused_alike : (fault : CommandFault) (xs ys : List (List ℕ)) → xs ≡ ys → IsRefusedBy xs fault → IsRefusedBy ys fault
refused_alike fault xs ys e = subst (λ (words : List (List ℕ)). IsRefusedBy words fault) e

-- the same words are served alike
pub served_alike : (xs ys : List (List ℕ)) (old new : Option (List Opening)) (files : Files) (input before after : Option (List ℕ)) (status : ℕ) → xs ≡ ys → (openings : List Opening) × Opens old openings new × DoesAsAsked xs files input openings before after status → (openings : List Opening) × Opens old openings new × DoesAsAsked ys files input openings before after status
served_alike xs ys old new files input before after status e = subst (λ (words : List (List ℕ)). (openings : List Opening) × Opens old openings new × DoesAsAsked words files input openings before after status) e

-- what is said of a run on a trace holds of what is known of the trace
module _ (certify : Bool) (before after : Option (List ℕ)) (end : Result (Unit {0}) Fault) where
  ran_on : (file : List ℕ) (known trace : Option (List ℕ)) → IfSome known (λ bytes. trace ≡ Some bytes) → RunsFiles certify file trace before after end → RunsFiles certify file known before after end
  ran_on file (Some bytes) trace same ran = subst (λ (t : Option (List ℕ)). RunsFiles certify file t before after end) same ran
  ran_on file None trace same ran = unknown end ran
    where
      unknown : (e : Result (Unit {0}) Fault) → RunsFiles certify file trace before after e → RunsFiles certify file None before after e
      unknown (Ok done) (runs, machine, ran) = (runs, machine, tt)
      unknown (Err (run_fault.Run e)) (runs, machine, ran) = (runs, machine, tt)
      unknown (Err (run_fault.Machine e)) ran = ran
      unknown (Err run_fault.CannotReadMachine) ran = ran
      unknown (Err run_fault.OutOfMemory) ran = ran
      unknown (Err run_fault.CannotReadTrace) ran = ran
      unknown (Err (run_fault.Block e)) ran = ran

  -- and of what is known of the machine file
  pub ran_on_files : (known_machine machine known_trace trace : Option (List ℕ)) → IfSome known_machine (λ bytes. machine ≡ Some bytes) → IfSome known_trace (λ bytes. trace ≡ Some bytes) → IfSome machine (λ file. RunsFiles certify file trace before after end) → IfSome known_machine (λ file. RunsFiles certify file known_trace before after end)
  ran_on_files None machine known_trace trace same_machine same_trace ran = tt
  ran_on_files (Some file) machine known_trace trace same_machine same_trace ran =
      ran_on file known_trace trace same_trace (subst (λ (m : Option (List ℕ)). IfSome m (λ f. RunsFiles certify f trace before after end)) same_machine ran)
