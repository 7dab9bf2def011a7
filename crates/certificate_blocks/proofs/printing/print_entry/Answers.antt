use Rattle.std.proofs.Common.{append_assoc}
use Rattle.certificate_blocks.proofs.printing.print_entry.Goals as goal

pub returns : goal.returns
returns g c = simp append_assoc (rw (c.number-mtype.ensures, c.in_radix.ensures) at c.writeln.ensures.bytes)
