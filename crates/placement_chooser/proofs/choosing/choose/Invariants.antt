use Rattle.std.proofs.Common.{◌≡◌, ◌++◌, ◌+◌, ◌≤◌, List, length}
use Rattle.std.specs.List.{AllZip}
use Rattle.std.specs.Vec.{vec_len, vec_capacity}
use Rattle.page_ranges.specs.declared.ranges.Descriptor.{Descriptor}
use Rattle.placement_certificate.specs.Certificates.{IsTrueBound, conventional_entries}
use Rattle.placement_certificate.specs.Search.{IsBestOf}
use Rattle.placement_chooser.proofs.choosing.choose.Given as goal

-- the bounds of the entries so far and the best of them
abbrev pub invariant-loop-leaf : goal.invariant-loop-leaf
invariant-loop-leaf g l = record {
  memory : l.left.memory ≡ l.table.pages;
  bounds : (front : List Descriptor) × (front ++ l.left.entries ≡ conventional_entries l.table.pages) × AllZip (IsTrueBound l.table.pages l.request) front l.bounds.items;
  best : IsBestOf l.best l.bounds.items;
  stays : l.search ≡ l.table.pages;
  room : vec_len l.bounds + length l.left.entries ≤ vec_capacity l.bounds;
}

abbrev pub decreases-loop-leaf : goal.decreases-loop-leaf
decreases-loop-leaf g l = l.left.leaves

-- so with those of a leaf, of which some are left
abbrev pub invariant-loop-free : goal.invariant-loop-free
invariant-loop-free g l = record {
  memory : l.leaf.memory ≡ l.table.pages;
  bounds : (front : List Descriptor) × (front ++ (l.leaf.entries ++ l.left.entries) ≡ conventional_entries l.table.pages) × AllZip (IsTrueBound l.table.pages l.request) front l.bounds.items;
  best : IsBestOf l.best l.bounds.items;
  stays : l.search ≡ l.table.pages;
  room : vec_len l.bounds + length (l.leaf.entries ++ l.left.entries) ≤ vec_capacity l.bounds;
}

abbrev pub decreases-loop-free : goal.decreases-loop-free
decreases-loop-free g l = length l.leaf.entries
