-- One search and no second tactic after it: a body that is wrong is then refused sooner.
use Rattle.std.proofs.Common.{rules}
use Rattle.boot_core.proofs.services.Services.descriptors.Goals as goal

pub returns-clause-count : goal.returns-clause-count
returns-clause-count c = search rules

pub returns-clause-proper : goal.returns-clause-proper
returns-clause-proper c = search rules
