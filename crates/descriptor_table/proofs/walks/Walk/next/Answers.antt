use Rattle.std.proofs.Common.{[], ◌++◌}
use contract.BorrowLft.{⊑_meet, ⊑_refl, ⊑_static}
use Rattle.descriptor_table.proofs.Lives.{of_leaf, once}
use Rattle.descriptor_table.proofs.walks.Walk.next.Goals as goal

pub branch-leaf-requires : goal.branch-leaf-requires
branch-leaf-requires g c = λ κs low. (tt, ⊑_meet κs.0 ((κs.1.0 ++ ((g.row.A.lives ++ []) ++ (((g.row.A.lives ++ []) ++ (g.row.A.lives ++ [])) ++ []))) ++ ((κs.1.1.0 ++ ((g.row.A.lives ++ []) ++ (((g.row.A.lives ++ []) ++ (g.row.A.lives ++ [])) ++ []))) ++ [])) ((κs.1.0 ++ ((g.row.A.lives ++ []) ++ (((g.row.A.lives ++ []) ++ (g.row.A.lives ++ [])) ++ []))) ++ ((κs.1.1.0 ++ ((g.row.A.lives ++ []) ++ (((g.row.A.lives ++ []) ++ (g.row.A.lives ++ [])) ++ []))) ++ [])) (⊑_meet κs.0 (κs.1.0 ++ ((g.row.A.lives ++ []) ++ (((g.row.A.lives ++ []) ++ (g.row.A.lives ++ [])) ++ []))) ((κs.1.1.0 ++ ((g.row.A.lives ++ []) ++ (((g.row.A.lives ++ []) ++ (g.row.A.lives ++ [])) ++ []))) ++ []) (⊑_meet κs.0 κs.1.0 ((g.row.A.lives ++ []) ++ (((g.row.A.lives ++ []) ++ (g.row.A.lives ++ [])) ++ [])) low.0.0 (of_leaf κs.0 g.row.A.lives low.1.0)) (⊑_meet κs.0 (κs.1.1.0 ++ ((g.row.A.lives ++ []) ++ (((g.row.A.lives ++ []) ++ (g.row.A.lives ++ [])) ++ []))) [] (⊑_meet κs.0 κs.1.1.0 ((g.row.A.lives ++ []) ++ (((g.row.A.lives ++ []) ++ (g.row.A.lives ++ [])) ++ [])) low.0.1.0 (of_leaf κs.0 g.row.A.lives low.1.0)) (⊑_static κs.0))) (⊑_meet κs.0 (κs.1.0 ++ ((g.row.A.lives ++ []) ++ (((g.row.A.lives ++ []) ++ (g.row.A.lives ++ [])) ++ []))) ((κs.1.1.0 ++ ((g.row.A.lives ++ []) ++ (((g.row.A.lives ++ []) ++ (g.row.A.lives ++ [])) ++ []))) ++ []) (⊑_meet κs.0 κs.1.0 ((g.row.A.lives ++ []) ++ (((g.row.A.lives ++ []) ++ (g.row.A.lives ++ [])) ++ [])) low.0.0 (of_leaf κs.0 g.row.A.lives low.1.0)) (⊑_meet κs.0 (κs.1.1.0 ++ ((g.row.A.lives ++ []) ++ (((g.row.A.lives ++ []) ++ (g.row.A.lives ++ [])) ++ []))) [] (⊑_meet κs.0 κs.1.1.0 ((g.row.A.lives ++ []) ++ (((g.row.A.lives ++ []) ++ (g.row.A.lives ++ [])) ++ [])) low.0.1.0 (of_leaf κs.0 g.row.A.lives low.1.0)) (⊑_static κs.0))))

pub branch-run-requires : goal.branch-run-requires
branch-run-requires g c = λ κs low. (tt, ⊑_meet κs.0 ((κs.1.0 ++ []) ++ ((κs.1.1.0 ++ []) ++ [])) ((κs.1.0 ++ []) ++ ((κs.1.1.0 ++ []) ++ [])) (⊑_meet κs.0 (κs.1.0 ++ []) ((κs.1.1.0 ++ []) ++ []) (once κs.0 κs.1.0 low.0) (⊑_meet κs.0 (κs.1.1.0 ++ []) [] (once κs.0 κs.1.1.0 low.1.0) (⊑_static κs.0))) (⊑_meet κs.0 (κs.1.0 ++ []) ((κs.1.1.0 ++ []) ++ []) (once κs.0 κs.1.0 low.0) (⊑_meet κs.0 (κs.1.1.0 ++ []) [] (once κs.0 κs.1.1.0 low.1.0) (⊑_static κs.0))))

pub from_residual-requires : goal.from_residual-requires
from_residual-requires g c = λ κs. once κs.0 κs.0 (⊑_refl κs.0)

pub from_residual-requires-in_err-run : goal.from_residual-requires-in_err-run
from_residual-requires-in_err-run g c = λ κs. once κs.0 κs.0 (⊑_refl κs.0)

pub runs-requires : goal.runs-requires
runs-requires g c = λ κs low. low

pub split_first-requires : goal.split_first-requires
split_first-requires g c = λ κs. ⊑_static κs.1.0

pub split_first-requires-2 : goal.split_first-requires-2
split_first-requires-2 g c = λ κs low. of_leaf κs.1.0 g.row.A.lives low

pub split_first-requires-3 : goal.split_first-requires-3
split_first-requires-3 g c = λ κs. ⊑_static κs.1.0
