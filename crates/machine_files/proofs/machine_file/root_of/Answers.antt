-- One search and no second tactic after it: a body that is wrong is then refused sooner.
use Rattle.std.proofs.Common.{rules}
use Rattle.machine_files.specs.MachineText.{root_of}
use Rattle.machine_files.proofs.machine_file.root_of.Goals as goal

pub returns-then-bytes-gt-MAX_FILE_LENGTH : goal.returns-then-bytes-gt-MAX_FILE_LENGTH
unfolding root_of
returns-then-bytes-gt-MAX_FILE_LENGTH c = search rules

pub returns : goal.returns
unfolding root_of
returns c = search rules
