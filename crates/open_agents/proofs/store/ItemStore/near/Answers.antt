use Rattle.open_agents.proofs.Placed.{store_near}
use Rattle.open_agents.proofs.store.ItemStore.near.Goals as goal

pub returns-clause-items : goal.returns-clause-items
returns-clause-items g c = rw (c.of.ensures, ← c.self.view_is, c.as_slice.ensures.value) (store_near _ _ _ c.self.invariant.0 c.args.handle)
