-- One search and no second tactic after it: a body that is wrong is then refused sooner.
use Rattle.std.proofs.Common.{rules}
use Rattle.certificate_blocks.proofs.line_words.empty_bound.Goals as goal

pub returns-in_err-first : goal.returns-in_err-first
returns-in_err-first c = search rules

pub returns-in_err-pages : goal.returns-in_err-pages
returns-in_err-pages c = search rules

pub returns-in_err-named : goal.returns-in_err-named
returns-in_err-named c = search rules

pub returns : goal.returns
returns c = search rules
