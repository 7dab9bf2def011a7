-- One search and no second tactic after it: a body that is wrong is then refused sooner.
use Rattle.std.proofs.Common.{rules}
use Rattle.boot_machines.proofs.machines.Machine.runs.Goals as goal

pub returns-clause-runs : goal.returns-clause-runs
returns-clause-runs c = search rules

pub returns-clause-valid : goal.returns-clause-valid
returns-clause-valid c = search rules
