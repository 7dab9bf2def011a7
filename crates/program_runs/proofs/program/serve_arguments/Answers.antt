use Rattle.std.proofs.Common.{[], map, String, Global, string_bytes, Ok, Err, refl, ap, ◌∙◌}
use Rattle.std.specs.declared.alloc.AllocError.{AllocError}
use Rattle.std.proofs.lemmas.Iterator.{items_from_collect}
use Rattle.std.proofs.lemmas.Iterator.Adapters.{YieldsList-from_vec}
use Rattle.std.specs.Vec.Iter.{into_iter_items}
use Rattle.command_line.specs.declared.commands.CommandFault.TheVariants as fault
use Rattle.program_runs.proofs.Openings.{none_opened, served_alike}
use Rattle.program_runs.proofs.program.serve_arguments.Goals as goal

pub returns-in-Err-clause-does : goal.returns-in-Err-clause-does
returns-in-Err-clause-does g c =
    rw c.in-Err.is ([], none_opened _, (refl, refl, c.serve_lost_arguments.ensures))

pub returns-in_default-clause-does : goal.returns-in_default-clause-does
returns-in_default-clause-does g c =
    rw c.in-Ok.is ([], none_opened _, (Err fault.OutOfMemory, (tt, refl, refl, c.serve_fault.ensures)))

pub returns-clause-does : goal.returns-clause-does
returns-clause-does g c =
    let items = items_from_collect {E = AllocError} (Ok c.in-Ok-collect.texts) c.in-Ok-collect.ensures.ran (YieldsList-from_vec (into_iter_items c.in-Ok.arguments) refl c.in-Ok.arguments.rest.ok.0) in
    rw c.in-Ok.is (served_alike _ _ _ _ _ _ _ _ _ (ap (map (λ (text : String Global). string_bytes text)) (c.as_slice.ensures.value ∙ items)) c.serve_texts.ensures.does)
