use Rattle.std.proofs.Common.{refl, sym, ◌∙◌}
use Rattle.open_agents.specs.OpenItems.{is_equal_item}
use Rattle.open_agents.proofs.Asked.{equal_near}
use Rattle.open_agents.proofs.Placed.{none_of_agent_0, held_any}
use Rattle.open_agents.proofs.opens.Opens.add_request.Goals as goal

pub returns-then-request-eq0-clause-ok : goal.returns-then-request-eq0-clause-ok
returns-then-request-eq0-clause-ok g c =
    rw (c.if-request-eq0.true, ← c.self.view_is) (rw (none_of_agent_0 c.args.request.now.handle c.args.request.now.guid c.args.request.now.controller c.args.request.now.attributes _ c.slots-slots.ensures.agents) refl)

pub returns-in-Some-clause-ok : goal.returns-in-Some-clause-ok
returns-in-Some-clause-ok g c =
    let there = rw c.near.ensures.slots at c.in-Some.ensures.there in
    rw (← c.self.view_is, held_any (is_equal_item c.args.request.now.handle c.args.request.now.guid c.args.request.now.agent c.args.request.now.controller c.args.request.now.attributes) _ _ there) c.count_at.ensures

pub add_new-requires : goal.add_new-requires
add_new-requires g c =
    rw (← c.self.view_is) (sym (equal_near _ c.args.request.now.handle c.args.request.now.guid c.args.request.now.agent c.args.request.now.controller c.args.request.now.attributes) ∙ rw c.near.ensures.items at c.in_default.ensures.none)

pub returns-clause-counts : goal.returns-clause-counts
returns-clause-counts g c = λ h.
    let none = sym (equal_near _ c.args.request.now.handle c.args.request.now.guid c.args.request.now.agent c.args.request.now.controller c.args.request.now.attributes) ∙ rw c.near.ensures.items at c.in_default.ensures.none in
    let w = sym (rw (← c.self.view_is) at h) ∙ none in
    absurd cc
