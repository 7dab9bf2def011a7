use Rattle.open_agents.proofs.Placed.{store_forgets}
use Rattle.open_agents.proofs.store.ItemStore.forget_agent.Goals as goal

pub remove_place-requires : goal.remove_place-requires
remove_place-requires g c = c.self.invariant.0.ascending

pub invariant_of-self : goal.invariant_of-self
invariant_of-self g c = (rw c.remove_place.ensures (store_forgets _ c.args.handle _ _ c.self.invariant.0 (rw (← c.self.view_is) at c.requires)), c.self.invariant.1)
