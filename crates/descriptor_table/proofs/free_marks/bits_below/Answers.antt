use Rattle.std.proofs.Common.{◌-◌, ap, ◌∙◌}
use Rattle.std.specs.Int.{bit_at}
use Rattle.std.proofs.lemmas.Nat.{one_shl}
use Rattle.std.proofs.lemmas.Nat.Bits.{bit_at_ones, bit_at_ones_above}
use Rattle.descriptor_table.proofs.free_marks.bits_below.Goals as goal

pub returns-clause-below : goal.returns-clause-below
returns-clause-below c i below = ap (λ x. bit_at (x - 1) i) (one_shl c.args.index 64 c.requires) ∙ bit_at_ones c.args.index i below

pub returns-clause-above : goal.returns-clause-above
returns-clause-above c i above = ap (λ x. bit_at (x - 1) i) (one_shl c.args.index 64 c.requires) ∙ bit_at_ones_above c.args.index i above
