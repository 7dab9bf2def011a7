use Rattle.std.proofs.Common.{ap, sym, ◌∙◌}
use Rattle.open_agents.specs.OpenItems.{is_equal_item}
use Rattle.open_agents.specs.Blocks.{passes}
use Rattle.open_agents.proofs.Placed.{count_stays, held_is, one_counted, store_counted, there}
use Rattle.open_agents.proofs.store.ItemStore.count_at.Goals as goal

pub invariant_of-self : goal.invariant_of-self
invariant_of-self g c =
    let q = is_equal_item c.args.request.now.handle c.args.request.now.guid c.args.request.now.agent c.args.request.now.controller c.args.request.now.attributes in
    let held = rw (← c.self.view_is) at c.requires in
    let read = there c.self.inside.slots.items c.args.place _ (held_is q c.self.inside.slots.items c.args.place held) c.index.ensures ∙ c.in-Some.is in (
      rw c.once_more.ensures (store_counted c.args.request.now.handle c.args.request.now.guid c.args.request.now.agent c.args.request.now.controller c.args.request.now.attributes _ c.args.place c.in-Some.item _ _ c.self.invariant.0 read (sym (ap (passes q) read) ∙ held)),
      c.self.invariant.1 ∙ sym (count_stays c.self.inside.slots.items c.args.place c.in-Some.item _ read),
    )

pub returns-in-Some : goal.returns-in-Some
returns-in-Some g c =
    let q = is_equal_item c.args.request.now.handle c.args.request.now.guid c.args.request.now.agent c.args.request.now.controller c.args.request.now.attributes in
    let held = rw (← c.self.view_is) at c.requires in
    let read = there c.self.inside.slots.items c.args.place _ (held_is q c.self.inside.slots.items c.args.place held) c.index.ensures ∙ c.in-Some.is in
    rw (← c.self.view_is, c.once_more.ensures) (sym (one_counted c.args.request.now.handle c.args.request.now.guid c.args.request.now.agent c.args.request.now.controller c.args.request.now.attributes _ c.args.place c.in-Some.item c.self.invariant.0.distinct read (sym (ap (passes q) read) ∙ held)))
