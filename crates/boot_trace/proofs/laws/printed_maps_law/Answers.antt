use Rattle.boot_trace.proofs.PrintedLines.{printed_maps}
use Rattle.boot_trace.proofs.laws.printed_maps_law.Goals as goal

pub returns : goal.returns
returns g c = λ ds certify placements certifies file bytes machine count new before after wrote said few. printed_maps ds certify placements certifies file bytes machine count new before after wrote said few
