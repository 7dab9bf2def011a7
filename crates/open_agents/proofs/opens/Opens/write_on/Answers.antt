use Rattle.open_agents.proofs.Asked.{items_near}
use Rattle.open_agents.proofs.opens.Opens.write_on.Goals as goal

pub returns-clause-count : goal.returns-clause-count
returns-clause-count g c = rw (← items_near c.args.self.now c.args.handle c.args.guid) (rw c.near.ensures at c.write_near.ensures.count)

pub returns-clause-written : goal.returns-clause-written
returns-clause-written g c = rw (← items_near c.args.self.now c.args.handle c.args.guid) (rw c.near.ensures at c.write_near.ensures.written)
