use Rattle.std.proofs.Common.{◌∙◌}
use Rattle.open_agents.specs.OpenItems.{is_for_driver, keeps}
use Rattle.open_agents.proofs.Asked.{listed_near, open_on_near}
use Rattle.open_agents.proofs.opens.Opens.usage.Goals as goal

pub returns-clause-open : goal.returns-clause-open
returns-clause-open g c = (rw c.near.ensures at c.usage_near.ensures.open) ∙ open_on_near c.args.handle c.args.guid c.args.self.now

pub returns-clause-driven : goal.returns-clause-driven
returns-clause-driven g c = (rw c.near.ensures at c.usage_near.ensures.driven) ∙ listed_near is_for_driver c.args.handle c.args.guid c.args.self.now

pub returns-clause-kept : goal.returns-clause-kept
returns-clause-kept g c = (rw c.near.ensures at c.usage_near.ensures.kept) ∙ listed_near keeps c.args.handle c.args.guid c.args.self.now
