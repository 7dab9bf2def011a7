use contract.BorrowLft.{⊑_static}
use Rattle.descriptor_table.proofs.leaves.Leaf.runs.Goals as goal

pub deref-requires : goal.deref-requires
deref-requires g c = λ κs low. (⊑_static κs.1.0, low)
