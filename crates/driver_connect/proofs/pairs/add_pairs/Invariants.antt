use Rattle.std.proofs.Common.{◌≡◌, drop}
use Rattle.driver_connect.specs.Stopping.{with_pairs}
use Rattle.driver_connect.proofs.pairs.add_pairs.Given as goal

abbrev pub invariant-loop-pair : goal.invariant-loop-pair
invariant-loop-pair g l = with_pairs l.set.items (drop l.pair-index l.more) ≡ with_pairs l.fn.set.items l.more
