use Rattle.call_texts.proofs.PrintedTraces.{printed_lines}
use Rattle.call_texts.proofs.laws.printed_lines_law.Goals as goal

pub returns : goal.returns
returns g c = λ calls numbers. printed_lines calls numbers
