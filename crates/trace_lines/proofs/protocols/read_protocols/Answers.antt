use Rattle.std.proofs.Common.{rules}
use Rattle.trace_lines.proofs.ParameterLists.{one}
use Rattle.trace_lines.proofs.protocols.read_protocols.Goals as goal

pub returns-in_err-read_u64 : goal.returns-in_err-read_u64
returns-in_err-read_u64 g c = rw (one c.args.parameters.now c.in-len1.len_at_least c.in-len1.len_below) (search rules)

pub returns : goal.returns
returns g c = rw (one c.args.parameters.now c.in-len1.len_at_least c.in-len1.len_below) (search rules)
