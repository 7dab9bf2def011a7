use Rattle.boot_trace.proofs.PrintedLines.{printed_blocks}
use Rattle.boot_trace.proofs.laws.printed_blocks_law.Goals as goal

pub returns : goal.returns
returns g c = λ ds placements certifies file bytes machine count new before after wrote said few. printed_blocks ds placements certifies file bytes machine count new before after wrote said few
