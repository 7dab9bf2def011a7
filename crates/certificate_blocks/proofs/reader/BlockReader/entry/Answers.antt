-- One search and no second tactic after it: a body that is wrong is then refused sooner.
use Rattle.std.proofs.Common.{rules}
use Rattle.certificate_blocks.proofs.reader.BlockReader.entry.Goals as goal

pub returns-in_err-number : goal.returns-in_err-number
returns-in_err-number g c = search rules

pub returns-in_err-words : goal.returns-in_err-words
returns-in_err-words g c = search rules

pub returns : goal.returns
returns g c = search rules
