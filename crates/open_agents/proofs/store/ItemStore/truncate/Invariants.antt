use Rattle.std.proofs.Common.{◌≡◌, ◌≤◌, [], drop, length, take}
use Rattle.open_agents.specs.Blocks.{items_in}
use Rattle.open_agents.proofs.store.ItemStore.truncate.Given as goal

abbrev pub invariant-loop-left : goal.invariant-loop-left
invariant-loop-left g l = record {
  many : l.left ≡ length (items_in l.self);
  first : take l.count (items_in l.self) ≡ take l.count (items_in l.fn.self);
  bound : l.end ≤ length l.self;
  after : items_in (drop l.end l.self) ≡ [];
}

abbrev pub decreases-loop-left : goal.decreases-loop-left
decreases-loop-left g l = l.left
