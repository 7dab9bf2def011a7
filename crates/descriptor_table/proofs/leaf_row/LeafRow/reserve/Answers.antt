use Rattle.std.proofs.Common.{arith}
use Rattle.descriptor_table.proofs.LeafRows.{few_in_row}
use Rattle.descriptor_table.proofs.leaf_row.LeafRow.reserve.Goals as goal

pub overflow_add-self-inside : goal.overflow_add-self-inside
overflow_add-self-inside g c = omega (arith, (few_in_row c.self.invariant).1)
