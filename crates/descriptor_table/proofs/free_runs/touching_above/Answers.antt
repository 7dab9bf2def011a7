use Rattle.std.proofs.Common.{sym, arith}
use Rattle.descriptor_table.proofs.Places.{above_touches, above_is_gap}
use Rattle.descriptor_table.proofs.free_runs.touching_above.Goals as goal

pub returns-then-run-above : goal.returns-then-run-above
returns-then-run-above c = λ rs ss o m p w e. above_touches rs ss c.args.run.now o m p w c.args.above.now (sym e) (omega arith)

pub returns-else-run-above : goal.returns-else-run-above
returns-else-run-above c = λ rs ss o m p w e. above_is_gap rs ss c.args.run.now o m p w c.args.above.now (sym e) (omega arith)
