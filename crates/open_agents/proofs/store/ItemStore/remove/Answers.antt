use Rattle.std.proofs.Common.{◌∙◌, arith}
use Rattle.open_agents.proofs.Placed.{near_ascends, store_removed, there, vacated_count}
use Rattle.open_agents.proofs.store.ItemStore.remove.Goals as goal

pub remove_ascending_from_both-requires : goal.remove_ascending_from_both-requires
remove_ascending_from_both-requires g c = near_ascends _ _ _ c.self.invariant.0

pub invariant_of-self : goal.invariant_of-self
invariant_of-self g c =
    let read = there _ c.args.place _ (rw (← c.self.view_is) at c.requires) c.index.ensures in
    let one = vacated_count c.self.inside.slots.items c.args.place c.in-Some.item (read ∙ c.in-Some.is) in (
      store_removed _ c.args.place c.in-Some.item _ _ _ c.self.invariant.0 (read ∙ c.in-Some.is) (rw c.second_block-second.ensures at c.remove_ascending_from_both.ensures),
      omega (arith, one, c.self.invariant.1),
    )

pub overflow_sub-self : goal.overflow_sub-self
overflow_sub-self g c =
    let read = there _ c.args.place _ (rw (← c.self.view_is) at c.requires) c.index.ensures in
    omega (arith, vacated_count c.self.inside.slots.items c.args.place c.in-Some.item (read ∙ c.in-Some.is), c.self.invariant.1)
