use Rattle.std.proofs.Common.{◌∙◌}
use Rattle.open_agents.proofs.Asked.{holder_near}
use Rattle.open_agents.proofs.opens.Opens.has_holder.Goals as goal

pub returns : goal.returns
returns g c = (rw c.near.ensures at c.is_held.ensures) ∙ holder_near c.args.self.now c.args.handle c.args.guid
