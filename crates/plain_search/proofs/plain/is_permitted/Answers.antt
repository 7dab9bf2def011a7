-- One search and no second tactic after it: a body that is wrong is then refused sooner.
use Rattle.std.proofs.Common.{rules}
use Rattle.plain_search.proofs.plain.is_permitted.Goals as goal

pub returns-then-start-request : goal.returns-then-start-request
returns-then-start-request c = search rules

pub returns-then-not-is_available : goal.returns-then-not-is_available
returns-then-not-is_available c = search rules

pub returns : goal.returns
returns c = search rules
