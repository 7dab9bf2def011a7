use Rattle.std.proofs.Common.{◌<◌, ◌^◌, length, arith}
use Rattle.open_agents.proofs.Placed.{few_items}
use Rattle.open_agents.proofs.store.ItemStore.len.Goals as goal

pub returns-clause-bound : goal.returns-clause-bound
returns-clause-bound g c =
    let slots = c.self.inside.slots in
    let low : length slots.items < 2 ^ 63 = omega (arith, slots.ok.0, slots.ok.1, slots.small) in
    omega (arith, low, c.self.invariant.1, few_items slots.items)
