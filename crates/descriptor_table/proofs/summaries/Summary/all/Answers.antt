use Rattle.std.proofs.Common.{arith}
use Rattle.descriptor_table.specs.declared.summaries.Summary.{Summary}
use Rattle.descriptor_table.specs.Summaries.{pair_of}
use Rattle.descriptor_table.proofs.FreeBounds.{all_bits, gained_all}
use Rattle.descriptor_table.proofs.summaries.Summary.all.Goals as goal

abbrev all : Summary
all = record {
  longest = 18446744073709551615;
  lengths = 18446744073709551615;
  beside = 18446744073709551615;
  between = 18446744073709551615;
}

pub returns : goal.returns
returns c = λ n t h. (omega arith, omega (arith, gained_all all n t (all_bits n) (all_bits t) (all_bits (pair_of n t))))
