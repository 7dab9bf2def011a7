use Rattle.std.proofs.Common.{sym, ◌∙◌}
use Rattle.open_agents.proofs.Placed.{none_listed}
use Rattle.open_agents.proofs.store.ItemStore.may_be_agent.Goals as goal

pub has_place-requires : goal.has_place-requires
has_place-requires g c = rw c.as_slice.ensures.value c.self.invariant.0.ascending

pub returns : goal.returns
returns g c = λ h. rw (← c.self.view_is) (none_listed _ _ c.args.handle c.self.invariant.0.listed (sym (rw c.as_slice.ensures.value at c.has_place.ensures) ∙ h))
