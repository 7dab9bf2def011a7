-- One search and no second tactic after it: a body that is wrong is then refused sooner.
use Rattle.std.proofs.Common.{rules}
use Rattle.machine_files.specs.MachineText.{member_run}
use Rattle.machine_files.proofs.members.member_run.Goals as goal

pub returns-in_err-mtype : goal.returns-in_err-mtype
unfolding member_run
returns-in_err-mtype c = search rules

pub returns-in_err-first : goal.returns-in_err-first
unfolding member_run
returns-in_err-first c = search rules

pub returns-in_err-pages : goal.returns-in_err-pages
unfolding member_run
returns-in_err-pages c = search rules

pub returns-in_err-attributes : goal.returns-in_err-attributes
unfolding member_run
returns-in_err-attributes c = search rules

pub returns : goal.returns
unfolding member_run
returns c = search rules
