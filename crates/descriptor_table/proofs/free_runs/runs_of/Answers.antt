use Rattle.descriptor_table.proofs.free_runs.runs_of.Goals as goal

pub runs-requires : goal.runs-requires
runs-requires g c = λ κs low. low
