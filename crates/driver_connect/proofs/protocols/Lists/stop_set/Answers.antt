use Rattle.std.proofs.Common.{length, ◌∙◌, ◌≤◌, ◌+◌, arith}
use Rattle.driver_connect.proofs.StopSets.{fewer_items, more_rounds}
use Rattle.driver_connect.proofs.protocols.Lists.stop_set.Goals as goal

pub returns : goal.returns
returns g c = λ pairs e.
    let t = c.args.self.now.handles.now in
    let opens = c.args.self.now.opens.now in
    let begun = rw e at c.in_ok-add_rounds.ensures in
    let bound : length opens ≤ length c.slots.result.now = rw (← c.slots.ensures) (fewer_items c.slots.result.now) in
    begun ∙ more_rounds (length c.all.result.now + length c.slots.result.now) t opens pairs (omega (arith, bound, c.all.ensures.count))
