use Rattle.trace_lines.proofs.LineCalls.{call_numbers}
use Rattle.trace_lines.proofs.laws.call_numbers_law.Goals as goal

pub returns : goal.returns
returns g c = λ line call e. call_numbers line call e
