use Rattle.std.proofs.Common.{◌∙◌}
use Rattle.open_agents.proofs.Asked.{beside_near, named_beside}
use Rattle.open_agents.proofs.opens.Opens.drop_naming_near.Goals as goal

pub drop_passing-requires : goal.drop_passing-requires
drop_passing-requires g c = λ o h. beside_near c.args.handle o c.requires.handle h

pub returns : goal.returns
returns g c = rw (← c.self.view_is) (c.drop_passing.ensures.remaining ∙ named_beside c.args.handle _ (rw (← c.self.view_is) at c.requires.agent))
