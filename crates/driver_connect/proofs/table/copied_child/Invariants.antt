use Rattle.std.proofs.Common.{◌≡◌, take}
use Rattle.driver_connect.proofs.table.copied_child.Given as goal

abbrev pub invariant-loop-pair : goal.invariant-loop-pair
invariant-loop-pair l = l.copy.items ≡ take l.pair-index l.pairs.items
