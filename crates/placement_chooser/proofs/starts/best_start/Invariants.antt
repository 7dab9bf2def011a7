use Rattle.std.proofs.Common.{◌≡◌, ◌++◌, length}
use Rattle.placement_chooser.proofs.BestSoFar.{IsBestOffer}
use Rattle.placement_chooser.proofs.starts.best_start.Given as goal

-- the best of the entries that are done
abbrev pub invariant-loop-leaf : goal.invariant-loop-leaf
invariant-loop-leaf g l = record {
  memory : l.left.memory ≡ l.table.pages;
  best : IsBestOffer l.table.pages l.request l.best l.wanted l.left.entries;
  stays : l.search ≡ l.table.pages;
}

abbrev pub decreases-loop-leaf : goal.decreases-loop-leaf
decreases-loop-leaf g l = l.left.leaves

-- so with those of a leaf, of which some are left
abbrev pub invariant-loop-free : goal.invariant-loop-free
invariant-loop-free g l = record {
  memory : l.leaf.memory ≡ l.table.pages;
  best : IsBestOffer l.table.pages l.request l.best l.wanted (l.left.entries ++ l.leaf.entries);
  stays : l.search ≡ l.table.pages;
}

abbrev pub decreases-loop-free : goal.decreases-loop-free
decreases-loop-free g l = length l.leaf.entries
