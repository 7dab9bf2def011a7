use Rattle.std.proofs.Common.{rules}
use Rattle.trace_lines.proofs.ParameterLists.{three}
use Rattle.trace_lines.proofs.protocols.read_uninstall.Goals as goal

pub returns-in_err-read_u64 : goal.returns-in_err-read_u64
returns-in_err-read_u64 g c = rw (three c.args.parameters.now c.in-len3.len_at_least c.in-len3.len_below) (search rules)

pub returns-in_err-read_guid : goal.returns-in_err-read_guid
returns-in_err-read_guid g c = rw (three c.args.parameters.now c.in-len3.len_at_least c.in-len3.len_below) (search rules)

pub returns-in_err-read_u64-2 : goal.returns-in_err-read_u64-2
returns-in_err-read_u64-2 g c = rw (three c.args.parameters.now c.in-len3.len_at_least c.in-len3.len_below) (search rules)

pub returns : goal.returns
returns g c = rw (three c.args.parameters.now c.in-len3.len_at_least c.in-len3.len_below) (search rules)
