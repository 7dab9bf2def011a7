use Rattle.std.proofs.Common.{◌≡◌, length}
use Rattle.open_agents.specs.OpenItems.{without_items}
use Rattle.open_agents.specs.Blocks.{FindsLast, is_near, items_in, places_from}
use Rattle.open_agents.proofs.store.ItemStore.drop_passing.Given as goal

abbrev pub invariant-loop-found : goal.invariant-loop-found
invariant-loop-found g l = record {
  kept : without_items (g.T.ItemTest.meaning l.test) (items_in l.self) ≡ without_items (g.T.ItemTest.meaning l.test) (items_in l.fn.self);
  found : FindsLast (g.T.ItemTest.meaning l.test) l.self (places_from 0 (is_near l.handle) l.self) l.found;
}

abbrev pub decreases-loop-found : goal.decreases-loop-found
decreases-loop-found g l = length (items_in l.self)
