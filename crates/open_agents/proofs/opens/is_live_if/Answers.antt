use Rattle.std.proofs.Common.{sym, ◌∙◌}
use Rattle.guid_handles.proofs.Found.{carried_live}
use Rattle.open_agents.proofs.opens.is_live_if.Goals as goal

pub returns-then-installed : goal.returns-then-installed
returns-then-installed g c = c.if-installed.true ∙ sym (carried_live c.args.handles.now c.all-numbers.ensures.proper c.args.guid c.args.handle (sym c.requires ∙ c.if-installed.true))
