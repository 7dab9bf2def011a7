use Rattle.std.proofs.Common.{◌≡◌, take}
use Rattle.driver_connect.specs.Stopping.{without_pairs}
use Rattle.driver_connect.proofs.stopping.take_pairs.Given as goal

abbrev pub invariant-loop-pair : goal.invariant-loop-pair
invariant-loop-pair g l = l.opens ≡ without_pairs (take l.pair-index l.pairs) l.fn.opens
