use Rattle.std.proofs.Common.{◌≡◌, drop}
use Rattle.protocol_tests.specs.Probes.{are_same}
use Rattle.protocol_tests.proofs.tests.drivers.views.are_same.Given as goal

abbrev pub invariant-loop-k : goal.invariant-loop-k
invariant-loop-k l = record {
  same : are_same l.shown l.wanted ≡ are_same (drop l.k l.shown) (drop l.k l.wanted);
}
