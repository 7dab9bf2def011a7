use Rattle.serde_json.specs.View.{view}
use Rattle.machine_files.proofs.FileRuns.{root_runs_are_listed}
use Rattle.machine_files.proofs.machine_file.read_machine.Goals as goal

pub machine_with-requires : goal.machine_with-requires
machine_with-requires c = record {
  runs = root_runs_are_listed (view c.in_ok-root.root) c.in_ok-runs.runs.items c.in_ok-runs.ensures;
  granule = c.root_granule.ensures.granule;
}
