-- One search and no second tactic after it: a body that is wrong is then refused sooner.
use Rattle.std.proofs.Common.{rules, arith}
use Rattle.machine_files.proofs.EachMember.{count_of_items}
use Rattle.machine_files.proofs.machine_file.root_runs.Goals as goal

pub returns-in_default : goal.returns-in_default
returns-in_default c = search rules

pub returns-then-len-gt-MAX_DESCRIPTORS : goal.returns-then-len-gt-MAX_DESCRIPTORS
returns-then-len-gt-MAX_DESCRIPTORS c = grind (arith, count_of_items)

pub returns : goal.returns
returns c = grind (arith, count_of_items)
