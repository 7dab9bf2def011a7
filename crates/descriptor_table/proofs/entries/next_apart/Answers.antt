use contract.BorrowLft.{⊑_refl}
use Rattle.descriptor_table.proofs.Lives.{once}
use Rattle.descriptor_table.proofs.entries.next_apart.Goals as goal

pub from_residual-requires : goal.from_residual-requires
from_residual-requires g c = λ κs. once κs.0 κs.0 (⊑_refl κs.0)

pub next_in_leaf-requires : goal.next_in_leaf-requires
next_in_leaf-requires g c = λ κs low. low
