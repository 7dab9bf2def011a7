use Rattle.open_agents.proofs.Asked.{open_near}
use Rattle.open_agents.proofs.opens.Opens.drop_interface.Goals as goal

pub drop_passing-requires : goal.drop_passing-requires
drop_passing-requires g c = open_near c.args.handle c.args.guid
