use Rattle.std.proofs.Common.{◌≡◌, drop}
use Rattle.driver_connect.specs.Starting.{has_twice}
use Rattle.driver_connect.proofs.progress.has_twice.Given as goal

abbrev pub invariant-loop-k : goal.invariant-loop-k
invariant-loop-k l = has_twice l.guids ≡ has_twice (drop l.k l.guids)
