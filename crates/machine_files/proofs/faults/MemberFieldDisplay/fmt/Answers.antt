-- One search and no second tactic after it: a body that is wrong is then refused sooner.
use Rattle.std.proofs.Common.{rules}
use Rattle.machine_files.proofs.faults.MemberFieldDisplay.fmt.Goals as goal

pub returns-clause-writes : goal.returns-clause-writes
returns-clause-writes g c = search rules

pub returns-clause-styled : goal.returns-clause-styled
returns-clause-styled g c = search rules
