-- One search and no second tactic after it: a body that is wrong is then refused sooner.
use Rattle.std.proofs.Common.{rules}
use Rattle.machine_files.proofs.members.page_count_of.Goals as goal

pub returns-in_err-pages : goal.returns-in_err-pages
returns-in_err-pages c = search rules

pub returns-in_err-end : goal.returns-in_err-end
returns-in_err-end c = search rules

pub returns : goal.returns
returns c = search rules
