use contract.BorrowLft.{⊑_static}
use Rattle.std.proofs.Common.{refl}
use Rattle.descriptor_table.proofs.TableFacts.{held_block}
use Rattle.descriptor_table.proofs.cursors.RunCursorPageCursor.block_at.Goals as goal

pub returns-clause-block : goal.returns-clause-block
returns-clause-block g c = held_block c.args.self.now c.args.page c.in_ok-run.run' (rw (← c.self.view_is) c.self.invariant.2) c.in_ok-run.ensures.maximal

pub returns-clause-run : goal.returns-clause-run
returns-clause-run g c = (c.in_ok-run.run', c.in_ok-run.ensures.maximal.0, refl)

pub branch-run-requires : goal.branch-run-requires
branch-run-requires g c = λ κs. ⊑_static κs.0

pub from_residual-requires : goal.from_residual-requires
from_residual-requires g c = λ κs. ⊑_static κs.0

pub run_at-requires : goal.run_at-requires
run_at-requires g c = λ κs low. low
