-- One search and no second tactic after it: a body that is wrong is then refused sooner.
use Rattle.std.proofs.Common.{rules}
use Rattle.placement_certificate.proofs.better.better_of.Goals as goal

pub returns-then-x-y : goal.returns-then-x-y
returns-then-x-y c = search rules

pub returns-else-x-y : goal.returns-else-x-y
returns-else-x-y c = search rules

pub returns-in-Some-None : goal.returns-in-Some-None
returns-in-Some-None c = search rules

pub returns-in-None-default : goal.returns-in-None-default
returns-in-None-default c = search rules
