-- One search and no second tactic after it: a body that is wrong is then refused sooner.
use Rattle.std.proofs.Common.{rules}
use Rattle.boot_core.proofs.services.Services.map_entries.Goals as goal

pub returns-clause-proper : goal.returns-clause-proper
returns-clause-proper c = search rules

pub returns-clause-entries : goal.returns-clause-entries
returns-clause-entries c = search rules
