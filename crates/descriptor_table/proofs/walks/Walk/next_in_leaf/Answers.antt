use Rattle.std.proofs.Common.{[], ◌++◌}
use contract.BorrowLft.{⊑_meet, ⊑_static}
use Rattle.descriptor_table.proofs.Lives.{once}
use Rattle.descriptor_table.proofs.walks.Walk.next_in_leaf.Goals as goal

pub branch-run-requires : goal.branch-run-requires
branch-run-requires g c = λ κs low. (tt, ⊑_meet κs.0 ((κs.1.0 ++ []) ++ ((κs.1.1.0 ++ []) ++ [])) ((κs.1.0 ++ []) ++ ((κs.1.1.0 ++ []) ++ [])) (⊑_meet κs.0 (κs.1.0 ++ []) ((κs.1.1.0 ++ []) ++ []) (once κs.0 κs.1.0 low.0) (⊑_meet κs.0 (κs.1.1.0 ++ []) [] (once κs.0 κs.1.1.0 low.1.0) (⊑_static κs.0))) (⊑_meet κs.0 (κs.1.0 ++ []) ((κs.1.1.0 ++ []) ++ []) (once κs.0 κs.1.0 low.0) (⊑_meet κs.0 (κs.1.1.0 ++ []) [] (once κs.0 κs.1.1.0 low.1.0) (⊑_static κs.0))))

pub split_first-requires : goal.split_first-requires
split_first-requires g c = λ κs. ⊑_static κs.1.0
