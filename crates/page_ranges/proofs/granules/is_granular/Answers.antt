-- One search and no second tactic after it: a body that is wrong is then refused sooner.
use Rattle.std.proofs.Common.{rules}
use Rattle.page_ranges.proofs.granules.is_granular.Goals as goal

pub returns-then-number-eq6 : goal.returns-then-number-eq6
returns-then-number-eq6 c = search rules

pub returns-else-number-eq6 : goal.returns-else-number-eq6
returns-else-number-eq6 c = search rules
