use Rattle.std.proofs.Common.{sym, ◌∙◌}
use Rattle.open_agents.specs.OpenItems.{is_open_on}
use Rattle.protocol_services.proofs.OpenCounts.{none_gone}
use Rattle.protocol_services.proofs.removing.drop_items.Goals as goal

pub returns-then-not-is_open : goal.returns-then-not-is_open
returns-then-not-is_open g c = sym (none_gone (is_open_on c.args.handle c.args.guid) c.args.items.now (sym c.requires ∙ c.if-not-is_open.true))
