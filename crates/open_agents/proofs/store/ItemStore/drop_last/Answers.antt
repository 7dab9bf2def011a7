use Rattle.std.proofs.Common.{◌∙◌}
use Rattle.open_agents.proofs.LastItems.{last_vacated, vacated_after, vacated_bound}
use Rattle.open_agents.proofs.store.ItemStore.drop_last.Goals as goal

pub returns-in-Some-clause-items : goal.returns-in-Some-clause-items
returns-in-Some-clause-items g c =
    rw (c.remove.ensures, ← c.self.view_is) (last_vacated c.self.inside.slots.items c.in-Some.place (rw c.as_slice.ensures.value at c.in-Some.ensures.there) (rw c.as_slice.ensures.value at c.in-Some.ensures.last))

pub returns-in-Some-clause-bound : goal.returns-in-Some-clause-bound
returns-in-Some-clause-bound g c = rw (c.remove.ensures, ← c.self.view_is) (vacated_bound c.self.inside.slots.items c.in-Some.place (rw c.as_slice.ensures.value at c.in-Some.ensures.there))

pub returns-in-Some-clause-after : goal.returns-in-Some-clause-after
returns-in-Some-clause-after g c = rw (c.remove.ensures, ← c.self.view_is) (vacated_after c.self.inside.slots.items c.in-Some.place ∙ rw c.as_slice.ensures.value at c.in-Some.ensures.last)
