use Rattle.std.proofs.Common.{◌+◌, ◌<◌, ◌^◌, ap, arith, length}
use Rattle.open_agents.proofs.Placed.{count_pushed, few_items, items_pushed, next_free, store_pushed, store_stays}
use Rattle.open_agents.proofs.store.ItemStore.append.Goals as goal

pub returns-clause-ok : goal.returns-clause-ok
returns-clause-ok g c =
    rw (c.push_reserved.ensures.items, c.reserve.ensures.items, ← c.self.view_is) (items_pushed c.self.inside.slots.items c.args.item.now)

pub add_place-requires : goal.add_place-requires
add_place-requires g c = c.self.invariant.0.ascending

pub push_in_both-requires : goal.push_in_both-requires
push_in_both-requires g c = rw (c.as_slice-place.ensures.value, c.reserve.ensures.items) (next_free _ _ _ c.self.invariant.0)

pub invariant_of-self-in_err-add_place : goal.invariant_of-self-in_err-add_place
invariant_of-self-in_err-add_place g c = rw (c.reserve.ensures.items, c.in_err-add_place.ensures.err) c.self.invariant

pub invariant_of-self-in_err-push_in_both : goal.invariant_of-self-in_err-push_in_both
invariant_of-self-in_err-push_in_both g c =
    rw (c.reserve.ensures.items)
    (store_stays _ c.args.item.now.agent _ _ _ _ c.self.invariant.0 c.in_err-push_in_both.ensures.err c.in_ok-add_place.ensures.ascending c.in_ok-add_place.ensures.has, c.self.invariant.1)

pub invariant_of-self-2 : goal.invariant_of-self-2
invariant_of-self-2 g c =
    rw (c.push_reserved.ensures.items, c.reserve.ensures.items) (
      store_pushed _ c.args.item.now _ _ _ _ c.self.invariant.0 (rw (← c.self.view_is) at c.requires.new) c.requires.agent c.in_ok-add_place.ensures.ascending c.in_ok-add_place.ensures.has
          (rw (c.as_slice-place.ensures.value, c.reserve.ensures.items, c.second_block.ensures) at c.in_ok-push_in_both.ensures.ok),
      rw (count_pushed c.self.inside.slots.items c.args.item.now) (ap (λ n. n + 1) c.self.invariant.1),
    )

pub overflow_add-self : goal.overflow_add-self
overflow_add-self g c =
    let slots = c.self.inside.slots in
    let low : length slots.items < 2 ^ 63 = omega (arith, slots.ok.0, slots.ok.1, slots.small) in
    omega (arith, low, c.self.invariant.1, few_items slots.items)
