use Rattle.std.proofs.Common.{append_assoc}
use Rattle.certificate_blocks.proofs.printing.print_bound.Goals as goal

pub returns-in-Some : goal.returns-in-Some
returns-in-Some g c = simp (c.in-Some.is, append_assoc) c.writeln.ensures.bytes

pub returns-in-None : goal.returns-in-None
returns-in-None g c = simp (c.in-None.is, append_assoc) c.writeln-in-None.ensures.bytes
