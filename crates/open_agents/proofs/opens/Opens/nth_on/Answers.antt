use Rattle.open_agents.proofs.Asked.{items_near}
use Rattle.open_agents.proofs.opens.Opens.nth_on.Goals as goal

pub returns : goal.returns
returns g c = rw (← items_near c.args.self.now c.args.handle c.args.guid) (rw c.near.ensures at c.nth_near.ensures)
