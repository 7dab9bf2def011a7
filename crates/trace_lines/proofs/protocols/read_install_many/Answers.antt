use Rattle.std.proofs.Common.{rules, arith}
use Rattle.trace_lines.proofs.PairLists.{many_asked}
use Rattle.trace_lines.proofs.protocols.read_install_many.Goals as goal

pub returns-in_err-read_pairs : goal.returns-in_err-read_pairs
returns-in_err-read_pairs g c = rw (many_asked c.args.parameters.now c.in-len1-up.len_at_least (search rules) (omega (arith, c.if-words-ne0.false))) (search rules)

pub returns : goal.returns
returns g c = rw (many_asked c.args.parameters.now c.in-len1-up.len_at_least (search rules) (omega (arith, c.if-words-ne0.false))) (search rules)
