use Rattle.open_agents.proofs.Asked.{items_near}
use Rattle.open_agents.proofs.opens.Opens.items.Goals as goal

pub returns-clause-items : goal.returns-clause-items
returns-clause-items g c =
    rw (← items_near c.args.self.now c.args.handle c.args.guid) (rw c.near.ensures at c.items_among.ensures.items)

pub returns-clause-none : goal.returns-clause-none
returns-clause-none g c =
    rw (← items_near c.args.self.now c.args.handle c.args.guid) (rw c.near.ensures at c.items_among.ensures.none)
