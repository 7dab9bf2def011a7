use Rattle.std.proofs.Common.{is_some, sym, ap, ◌∙◌}
use Rattle.open_agents.specs.Blocks.{is_near}
use Rattle.open_agents.proofs.Asked.{none_dropped}
use Rattle.open_agents.proofs.Dropping.{finds_any, index_bound, none_from}
use Rattle.open_agents.proofs.Placed.{vacated_smaller, without_held}
use Rattle.open_agents.proofs.store.ItemStore.drop_passing.Goals as goal

pub last_below-found-requires-clause-bound : goal.last_below-found-requires-clause-bound
last_below-found-requires-clause-bound g c =
    let last = rw c.in-Some.is at c.loop-found.invariant.found in
    rw c.remove.ensures (index_bound (is_near c.args.handle) c.loop-found.self c.in-Some.last.place c.in-Some.last.index last.1)

pub last_below-found-requires-clause-after : goal.last_below-found-requires-clause-after
last_below-found-requires-clause-after g c =
    let last = rw c.in-Some.is at c.loop-found.invariant.found in
    rw c.remove.ensures (none_from (g.T.ItemTest.meaning c.args.test.now) (is_near c.args.handle) c.loop-found.self c.in-Some.last.place c.in-Some.last.index last.1 last.2)

pub loop-found-smaller : goal.loop-found-smaller
loop-found-smaller g c =
    let last = rw c.in-Some.is at c.loop-found.invariant.found in
    rw c.remove.ensures (vacated_smaller (g.T.ItemTest.meaning c.args.test.now) c.loop-found.self c.in-Some.last.place last.0)

pub loop-found-preserved : goal.loop-found-preserved
loop-found-preserved g c =
    let last = rw c.in-Some.is at c.loop-found.invariant.found in
    record {
      kept = rw c.remove.ensures (without_held (g.T.ItemTest.meaning c.args.test.now) c.loop-found.self c.in-Some.last.place last.0 ∙ c.loop-found.invariant.kept);
      found = c.last_below-found.ensures;
    }

pub returns-clause-found : goal.returns-clause-found
returns-clause-found g c =
    c.is_some-any.ensures
    ∙ finds_any (g.T.ItemTest.meaning c.args.test.now) (is_near c.args.handle) c.args.self.now c.find_last_passing-found.result c.requires
    (rw (c.near-near.ensures.slots, c.near-near.ensures.places) at c.find_last_passing-found.ensures)

pub returns-clause-remaining : goal.returns-clause-remaining
returns-clause-remaining g c =
    none_dropped (g.T.ItemTest.meaning c.args.test.now) _
    (sym (finds_any (g.T.ItemTest.meaning c.args.test.now) (is_near c.args.handle) c.loop-found.self c.loop-found.found c.requires c.loop-found.invariant.found) ∙ ap is_some c.in_default.is)
    ∙ c.loop-found.invariant.kept
