use Rattle.std.proofs.Common.{rules}
use Rattle.certificate_blocks.proofs.line_words.type_of_word.Goals as goal

pub returns-in_err-number : goal.returns-in_err-number
returns-in_err-number c = search rules

pub returns-in_err-ok : goal.returns-in_err-ok
returns-in_err-ok c = search rules

pub returns : goal.returns
returns c = search rules
