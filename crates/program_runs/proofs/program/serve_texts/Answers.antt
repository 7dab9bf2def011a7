use Rattle.std.proofs.Common.{ℕ, List, [], map, Bor, Err, refl, ap, ◌∙◌}
use Rattle.command_line.specs.declared.commands.CommandFault.TheVariants as fault
use Rattle.program_runs.proofs.Openings.{none_opened, refused_alike}
use Rattle.program_runs.proofs.program.serve_texts.Goals as goal

pub returns-in_default-clause-does : goal.returns-in_default-clause-does
returns-in_default-clause-does g c =
    ([], none_opened _, (Err fault.OutOfMemory, (tt, refl, refl, c.serve_fault.ensures)))

pub returns-in-Err-Usage-clause-does : goal.returns-in-Err-Usage-clause-does
returns-in-Err-Usage-clause-does g c =
    ([], none_opened _, (Err c.in-Err-Usage.field-0, (refused_alike c.in-Err-Usage.field-0 _ _ (ap (map (λ (word : Bor (List ℕ)). word.now)) c.as_slice.ensures.value ∙ c.in-Ok.ensures) c.in-Err-Usage.ensures.err, refl, refl, rw c.in-Err-Usage.field-0-is c.serve_usage.ensures.status)))

pub returns-clause-does : goal.returns-clause-does
returns-clause-does g c =
    ([], none_opened _, (Err fault.OutOfMemory, (tt, refl, refl, c.serve_fault-in-Err-OutOfMemory.ensures)))
