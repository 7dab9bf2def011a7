use Rattle.std.proofs.Common.{◌≡◌, ◌≤◌, drop, false, length}
use Rattle.std.specs.List.{list_any}
use Rattle.open_agents.specs.OpenItems.{without_items}
use Rattle.open_agents.specs.Blocks.{items_in}
use Rattle.open_agents.proofs.store.ItemStore.drop_anywhere.Given as goal

abbrev pub invariant-loop-place : goal.invariant-loop-place
invariant-loop-place g l = record {
  kept : without_items (g.T.ItemTest.meaning l.test) (items_in l.self) ≡ without_items (g.T.ItemTest.meaning l.test) (items_in l.fn.self);
  bound : l.end ≤ length l.self;
  after : list_any (g.T.ItemTest.meaning l.test) (items_in (drop l.end l.self)) ≡ false;
}

abbrev pub decreases-loop-place : goal.decreases-loop-place
decreases-loop-place g l = length (items_in l.self)
