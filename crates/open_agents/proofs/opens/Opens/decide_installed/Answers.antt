use Rattle.std.proofs.Common.{◌∙◌}
use Rattle.open_agents.proofs.Asked.{rule_agent_0, rule_near}
use Rattle.open_agents.proofs.opens.Opens.decide_installed.Goals as goal

pub returns-then-request-ne0 : goal.returns-then-request-ne0
returns-then-request-ne0 g c =
    (rw c.near.ensures at c.decide_among.ensures)
    ∙ rule_near c.args.handles.now c.args.self.now c.args.request.now.handle c.args.request.now.guid c.args.request.now.agent c.args.request.now.controller c.args.request.now.attributes

pub returns : goal.returns
returns g c =
    rw (c.if-request-ne0.false, ← c.self.view_is)
    ((rw c.if-request-ne0.false at c.decide_among-2.ensures)
    ∙ rule_agent_0 c.args.handles.now _ c.args.request.now.handle c.args.request.now.guid c.args.request.now.controller c.args.request.now.attributes c.slots-slots.ensures.agents)
