use Rattle.std.proofs.Common.{rules}
use Rattle.trace_lines.proofs.ParameterLists.{two}
use Rattle.trace_lines.proofs.protocols.read_path.Goals as goal

pub returns-in_err-read_guid : goal.returns-in_err-read_guid
returns-in_err-read_guid g c = rw (two c.args.parameters.now c.in-len2.len_at_least c.in-len2.len_below) (search rules)

pub returns-in_err-read_u64 : goal.returns-in_err-read_u64
returns-in_err-read_u64 g c = rw (two c.args.parameters.now c.in-len2.len_at_least c.in-len2.len_below) (search rules)

pub returns : goal.returns
returns g c = rw (two c.args.parameters.now c.in-len2.len_at_least c.in-len2.len_below) (search rules)
