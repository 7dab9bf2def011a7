use Rattle.std.proofs.lemmas.Bool.{ne_eqb}
use Rattle.open_agents.proofs.Asked.{managed_near}
use Rattle.open_agents.proofs.opens.Opens.managers.Goals as goal

pub returns-clause-pairs : goal.returns-clause-pairs
returns-clause-pairs g c =
    rw (← managed_near c.args.self.now c.args.handle (ne_eqb c.args.handle 0 c.if-handle-eq0.false)) (rw c.near.ensures at c.managers_near.ensures.pairs)

pub returns-clause-none : goal.returns-clause-none
returns-clause-none g c =
    rw (← managed_near c.args.self.now c.args.handle (ne_eqb c.args.handle 0 c.if-handle-eq0.false)) (rw c.near.ensures at c.managers_near.ensures.none)
