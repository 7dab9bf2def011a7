-- One search and no second tactic after it: a body that is wrong is then refused sooner.
use Rattle.std.proofs.Common.{rules}
use Rattle.certificate_blocks.proofs.line_words.priced_bound.Goals as goal

pub returns-in_err-number_of : goal.returns-in_err-number_of
returns-in_err-number_of c = search rules

pub returns-in_err-number_of-2 : goal.returns-in_err-number_of-2
returns-in_err-number_of-2 c = search rules

pub returns-in_err-number_of-3 : goal.returns-in_err-number_of-3
returns-in_err-number_of-3 c = search rules

pub returns-in_err-number_of-4 : goal.returns-in_err-number_of-4
returns-in_err-number_of-4 c = search rules

pub returns : goal.returns
returns c = search rules
