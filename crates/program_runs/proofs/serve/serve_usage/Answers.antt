use Rattle.program_runs.proofs.Openings.{front_written}
use Rattle.program_runs.proofs.serve.serve_usage.Goals as goal

pub returns-clause-text : goal.returns-clause-text
returns-clause-text g c =
    rw c.as_bytes.ensures.value at (front_written c.write_text.result _ _ _ c.write_text.ensures.ok c.write_text.ensures.err)
