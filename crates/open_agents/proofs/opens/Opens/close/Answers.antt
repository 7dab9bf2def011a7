use Rattle.open_agents.specs.OpenItems.{is_open_on, is_of_pair}
use Rattle.open_agents.proofs.Asked.{first_part, open_near}
use Rattle.open_agents.proofs.opens.Opens.close.Goals as goal

pub drop_passing-requires : goal.drop_passing-requires
drop_passing-requires g c = λ o h. open_near c.args.handle c.args.guid o (first_part (is_open_on c.args.handle c.args.guid o) (is_of_pair c.args.controller c.args.agent o) h)
