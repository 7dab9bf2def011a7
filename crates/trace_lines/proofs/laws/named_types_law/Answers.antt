use Rattle.trace_lines.proofs.LineCalls.{named_types}
use Rattle.trace_lines.proofs.laws.named_types_law.Goals as goal

pub returns : goal.returns
returns g c = λ line call e. named_types line call e
