use Rattle.std.proofs.Common.{arith}
use Rattle.descriptor_table.proofs.Places.{below_touches, below_is_gap}
use Rattle.descriptor_table.proofs.free_runs.touching_below.Goals as goal

pub returns-then-below-run : goal.returns-then-below-run
returns-then-below-run c = λ rs ss m p w. below_touches rs ss c.args.run.now m p c.args.below.now w (omega arith)

pub returns-else-below-run : goal.returns-else-below-run
returns-else-below-run c = λ rs ss m p w. below_is_gap rs ss c.args.run.now m p c.args.below.now w (omega arith)
