-- One tactic and no second after it: a body that is wrong is then refused sooner.
use Rattle.std.proofs.Common.{rules, tests}
use Rattle.text_lines.proofs.numbers.number_of.Goals as goal

pub returns-then-starts_with : goal.returns-then-starts_with
returns-then-starts_with c = search (tests, rules)

pub returns-then-is_empty : goal.returns-then-is_empty
returns-then-is_empty c = search (tests, rules)

pub returns : goal.returns
returns c = search (tests, rules)
