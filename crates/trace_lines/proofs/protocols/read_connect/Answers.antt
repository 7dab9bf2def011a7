use Rattle.std.proofs.Common.{rules}
use Rattle.trace_lines.proofs.NumberLists.{connect_asked}
use Rattle.trace_lines.proofs.protocols.read_connect.Goals as goal

pub returns-in_err-read_u64 : goal.returns-in_err-read_u64
returns-in_err-read_u64 g c = rw (connect_asked c.args.parameters.now c.in-len2-up.len_at_least) (search rules)

pub returns-in_err-read_flag : goal.returns-in_err-read_flag
returns-in_err-read_flag g c = rw (connect_asked c.args.parameters.now c.in-len2-up.len_at_least) (search rules)

pub returns-in_err-read_handles : goal.returns-in_err-read_handles
returns-in_err-read_handles g c = rw (connect_asked c.args.parameters.now c.in-len2-up.len_at_least) (search rules)

pub returns : goal.returns
returns g c = rw (connect_asked c.args.parameters.now c.in-len2-up.len_at_least) (search rules)
