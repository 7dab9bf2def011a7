use Rattle.std.proofs.Common.{◌%◌, ◌^◌, ap, ◌∙◌, arith}
use Rattle.descriptor_table.proofs.FreeBounds.{all_bits, pair_bit}
use Rattle.descriptor_table.specs.Summaries.{pair_of}
use Rattle.descriptor_table.proofs.summaries.pair_bits.Goals as goal

pub returns-in-Some : goal.returns-in-Some
returns-in-Some c = λ t. rw c.in-Some.is (pair_bit c.args.pages c.in-Some.run'.now.mtype t c.with_bit.result (c.with_bit.ensures ∙ ap (λ k. 2 ^ (k % 64)) c.pair_of.ensures))

pub returns-in-None : goal.returns-in-None
returns-in-None c = λ t. rw c.in-None.is (omega (arith, all_bits (pair_of c.args.pages t)))
