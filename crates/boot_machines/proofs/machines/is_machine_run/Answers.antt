-- One search and no second tactic after it: a body that is wrong is then refused sooner.
use Rattle.std.proofs.Common.{rules}
use Rattle.boot_machines.proofs.machines.is_machine_run.Goals as goal

pub returns-after-free : goal.returns-after-free
returns-after-free c = search rules
