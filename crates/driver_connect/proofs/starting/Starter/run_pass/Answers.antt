use Rattle.std.proofs.Common.{rules, arith, ◌∙◌}
use Rattle.std.proofs.lemmas.Grind.{common_steps}
use Rattle.std.proofs.lemmas.List.{drop_all}
use Rattle.std.proofs.lemmas.Result.{IfOk-from_err}
use contract.BorrowLft.{⊑_static}
use Rattle.driver_connect.specs.Sites.{site_at}
use Rattle.driver_connect.proofs.Lives.{of_two_lists}
use Rattle.driver_connect.proofs.GoingOn.{goes_nowhere, goes_further}
use Rattle.driver_connect.proofs.Passes.{grows_same, turns_end}
use Rattle.driver_connect.proofs.starting.Starter.run_pass.Goals as goal

pub returns-in_err-protocols-clause-goes_on : goal.returns-in_err-protocols-clause-goes_on
returns-in_err-protocols-clause-goes_on g c = goes_nowhere c.args.connecting.now

pub loop-agent-init : goal.loop-agent-init
loop-agent-init g c = record {
  whole = search rules;
  protocols = search rules;
  grows = grows_same c.args.connecting.now.handles;
  goes_on = goes_nowhere c.args.connecting.now;
  room = c.requires;
}

pub returns-in_err-turn-clause-goes_on : goal.returns-in_err-turn-clause-goes_on
returns-in_err-turn-clause-goes_on g c = goes_further _ _ _ c.loop-agent.invariant.goes_on c.take_turn.ensures.goes_on

pub returns-in_err-note-clause-goes_on : goal.returns-in_err-note-clause-goes_on
returns-in_err-note-clause-goes_on g c = goes_further _ _ _ c.loop-agent.invariant.goes_on c.take_turn.ensures.goes_on

pub returns-in_err-protocols-2-clause-goes_on : goal.returns-in_err-protocols-2-clause-goes_on
returns-in_err-protocols-2-clause-goes_on g c = goes_further _ _ _ c.loop-agent.invariant.goes_on c.take_turn.ensures.goes_on

pub loop-agent-preserved : goal.loop-agent-preserved
loop-agent-preserved g c = record {
  whole = grind (arith, common_steps);
  protocols = search rules;
  grows = search rules;
  goes_on = goes_further _ _ _ c.loop-agent.invariant.goes_on c.take_turn.ensures.goes_on;
  room = search rules;
}

pub take_turn-requires-clause-room : goal.take_turn-requires-clause-room
take_turn-requires-clause-room g c = c.loop-agent.invariant.room

pub take_turn-requires-clause-protocols : goal.take_turn-requires-clause-protocols
take_turn-requires-clause-protocols g c = c.as_slice.ensures.value ∙ c.loop-agent.invariant.protocols

pub refreshed-requires : goal.refreshed-requires
refreshed-requires g c = λ e. rw (c.in_ok-turn.ensures.stays e) c.loop-agent.invariant.protocols

pub returns-in_err-protocols-clause-whole : goal.returns-in_err-protocols-clause-whole
returns-in_err-protocols-clause-whole g c = IfOk-from_err c.from_residual.result _ c.from_residual.ensures.0

pub returns-in_err-protocols-clause-grows : goal.returns-in_err-protocols-clause-grows
returns-in_err-protocols-clause-grows g c = IfOk-from_err c.from_residual.result _ c.from_residual.ensures.0

pub returns-in_err-turn-clause-whole : goal.returns-in_err-turn-clause-whole
returns-in_err-turn-clause-whole g c = IfOk-from_err c.from_residual-in_err-turn.result _ c.from_residual-in_err-turn.ensures.0

pub returns-in_err-turn-clause-grows : goal.returns-in_err-turn-clause-grows
returns-in_err-turn-clause-grows g c = IfOk-from_err c.from_residual-in_err-turn.result _ c.from_residual-in_err-turn.ensures.0

pub from_residual-requires-in_err-turn : goal.from_residual-requires-in_err-turn
from_residual-requires-in_err-turn g c = λ κs low. (of_two_lists κs.0 g.row.A.lives low, (⊑_static κs.1.0, ⊑_static κs.1.1.0))

pub returns-in_err-note-clause-whole : goal.returns-in_err-note-clause-whole
returns-in_err-note-clause-whole g c = IfOk-from_err c.from_residual-in_err-note.result _ c.from_residual-in_err-note.ensures.0

pub returns-in_err-note-clause-grows : goal.returns-in_err-note-clause-grows
returns-in_err-note-clause-grows g c = IfOk-from_err c.from_residual-in_err-note.result _ c.from_residual-in_err-note.ensures.0

pub from_residual-requires-in_err-note : goal.from_residual-requires-in_err-note
from_residual-requires-in_err-note g c = λ κs low. (of_two_lists κs.0 g.row.A.lives low, (⊑_static κs.1.0, ⊑_static κs.1.1.0))

pub returns-in_err-protocols-2-clause-whole : goal.returns-in_err-protocols-2-clause-whole
returns-in_err-protocols-2-clause-whole g c = IfOk-from_err c.from_residual-in_err-protocols-2.result _ c.from_residual-in_err-protocols-2.ensures.0

pub returns-in_err-protocols-2-clause-grows : goal.returns-in_err-protocols-2-clause-grows
returns-in_err-protocols-2-clause-grows g c = IfOk-from_err c.from_residual-in_err-protocols-2.result _ c.from_residual-in_err-protocols-2.ensures.0

pub from_residual-requires-in_err-protocols-2 : goal.from_residual-requires-in_err-protocols-2
from_residual-requires-in_err-protocols-2 g c = λ κs low. (of_two_lists κs.0 g.row.A.lives low, (⊑_static κs.1.0, ⊑_static κs.1.1.0))

pub returns-clause-whole : goal.returns-clause-whole
returns-clause-whole g c =
    let whole = rw (drop_all c.loop-agent.agent-index c.args.agents.now c.loop-agent-test.false) at c.loop-agent.invariant.whole in
    turns_end (site_at g.D.Driver.meaning c.args.self.now c.args.controller) c.loop-agent.pass.starts.items c.loop-agent.pass.left.items c.loop-agent.connecting _ whole

pub returns-clause-grows : goal.returns-clause-grows
returns-clause-grows g c = c.loop-agent.invariant.grows

pub returns-clause-goes_on : goal.returns-clause-goes_on
returns-clause-goes_on g c = c.loop-agent.invariant.goes_on
