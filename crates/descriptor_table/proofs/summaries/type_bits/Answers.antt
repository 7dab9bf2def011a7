use Rattle.std.proofs.Common.{arith, rules}
use Rattle.descriptor_table.proofs.FreeBounds.{all_bits, type_bit}
use Rattle.descriptor_table.proofs.summaries.type_bits.Goals as goal

pub returns-in-Some : goal.returns-in-Some
returns-in-Some c = λ t. rw c.in-Some.is (type_bit c.in-Some.run'.now.mtype t c.with_bit.result (search rules))

pub returns-in-None : goal.returns-in-None
returns-in-None c = λ t. rw c.in-None.is (omega (arith, all_bits t))
