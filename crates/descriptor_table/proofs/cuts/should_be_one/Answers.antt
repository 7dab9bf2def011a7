-- One search and no second tactic after it: a body that is wrong is then refused sooner.
use Rattle.std.proofs.Common.{rules}
use Rattle.descriptor_table.proofs.cuts.should_be_one.Goals as goal

pub returns-then-run-next-2 : goal.returns-then-run-next-2
returns-then-run-next-2 c = search rules

pub returns-else-run-next-2 : goal.returns-else-run-next-2
returns-else-run-next-2 c = search rules
