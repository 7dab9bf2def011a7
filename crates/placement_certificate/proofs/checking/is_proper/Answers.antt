-- One search and no second tactic after it: a body that is wrong is then refused sooner.
use Rattle.std.proofs.Common.{rules}
use Rattle.placement_certificate.proofs.checking.is_proper.Goals as goal

pub returns-then-is_ok : goal.returns-then-is_ok
returns-then-is_ok c = search rules

pub returns-else-is_ok : goal.returns-else-is_ok
returns-else-is_ok c = search rules
