use Rattle.open_agents.proofs.Asked.{none_named}
use Rattle.open_agents.proofs.opens.Opens.drop_agent.Goals as goal

pub forget_agent-requires : goal.forget_agent-requires
forget_agent-requires g c = none_named c.args.handle _ _ c.drop_anywhere.ensures
