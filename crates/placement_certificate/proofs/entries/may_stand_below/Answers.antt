-- One search and no second tactic after it: a body that is wrong is then refused sooner.
use Rattle.std.proofs.Common.{rules}
use Rattle.placement_certificate.proofs.entries.may_stand_below.Goals as goal

pub returns-in-None : goal.returns-in-None
returns-in-None c = search rules

pub returns-then-entry-next : goal.returns-then-entry-next
returns-then-entry-next c = search rules

pub returns-else-entry-next : goal.returns-else-entry-next
returns-else-entry-next c = search rules
