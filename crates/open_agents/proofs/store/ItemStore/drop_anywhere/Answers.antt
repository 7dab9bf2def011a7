use Rattle.std.proofs.Common.{ap, ◌∙◌}
use Rattle.std.specs.List.{list_any}
use Rattle.open_agents.proofs.Asked.{none_dropped}
use Rattle.open_agents.proofs.LastItems.{vacated_after, vacated_bound}
use Rattle.open_agents.proofs.Placed.{held_is, vacated_smaller, without_held}
use Rattle.open_agents.proofs.store.ItemStore.drop_anywhere.Goals as goal

pub loop-place-smaller : goal.loop-place-smaller
loop-place-smaller g c = rw c.remove.ensures (vacated_smaller (g.T.ItemTest.meaning c.args.test.now) c.loop-place.self c.in-Some.place (rw c.slots.ensures.places at c.in-Some.ensures.there))

pub loop-place-preserved : goal.loop-place-preserved
loop-place-preserved g c =
    let test = g.T.ItemTest.meaning c.args.test.now in
    let held = rw c.slots.ensures.places at c.in-Some.ensures.there in
    record {
      kept = rw c.remove.ensures (without_held test c.loop-place.self c.in-Some.place held ∙ c.loop-place.invariant.kept);
      bound = rw c.remove.ensures (vacated_bound c.loop-place.self c.in-Some.place (held_is test c.loop-place.self c.in-Some.place held));
      after = rw c.remove.ensures (ap (list_any test) (vacated_after c.loop-place.self c.in-Some.place) ∙ rw c.slots.ensures.places at c.in-Some.ensures.last);
    }

pub returns : goal.returns
returns g c = none_dropped (g.T.ItemTest.meaning c.args.test.now) _ (rw c.slots.ensures.places at c.in_default.ensures.none) ∙ c.loop-place.invariant.kept
