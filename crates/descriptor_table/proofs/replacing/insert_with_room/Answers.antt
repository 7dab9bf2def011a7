use contract.BorrowLft.{⊑_static}
use Rattle.descriptor_table.proofs.Lives.{twice}
use Rattle.descriptor_table.proofs.replacing.insert_with_room.Goals as goal

pub drop-insert-requires : goal.drop-insert-requires
drop-insert-requires g c = λ κs low. low

pub is_err-requires : goal.is_err-requires
is_err-requires g c = λ κs low. (⊑_static κs.1.0, twice κs.1.1.0 g.row.T.lives low)
