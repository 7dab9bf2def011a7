use Rattle.std.proofs.Common.{◌++◌, true, false, inl, inr, refl}
use Rattle.program_runs.specs.Programs.{opening}
use Rattle.program_runs.proofs.Openings.{both_opened, ran_on_files}
use Rattle.program_runs.proofs.program.run_paths.Goals as goal

pub returns-in_default-open : goal.returns-in_default-open
returns-in_default-open g c =
    (opening c.args.machine.now true ++ opening c.args.trace.now false, both_opened _ _ _ _ _ c.in-Ok.ensures.returned c.in_default-open.ensures.returned, inr (inl (refl, refl, refl)))

pub returns : goal.returns
returns g c = (
  opening c.args.machine.now true ++ opening c.args.trace.now true,
  both_opened _ _ _ _ _ c.in-Ok.ensures.returned c.in-Ok-open.ensures.returned,
  inr (inr (refl, ran_on_files c.args.certify _ _ _ (g.O.OpenFiles.bytes_at c.args.files.now c.args.machine.now) _ (g.O.OpenFiles.bytes_at c.args.files.now c.args.trace.now) _ c.in-Ok.ensures.bytes (rw c.in-Ok.ensures.kept at c.in-Ok-open.ensures.bytes) c.run_files.ensures)),
)
