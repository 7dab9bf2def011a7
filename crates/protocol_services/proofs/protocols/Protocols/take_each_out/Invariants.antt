use Rattle.std.proofs.Common.{◌≡◌, List, true, drop}
use Rattle.driver_connect.specs.Drivers.{Meaning}
use Rattle.protocol_services.specs.RemovingMany.{all_uninstalled, are_free_to_go}
use Rattle.protocol_services.proofs.protocols.Protocols.take_each_out.Given as goal

-- the interfaces that are left are free to go, and do what all do
abbrev pub invariant-loop-pair : goal.invariant-loop-pair
invariant-loop-pair g l = record {
  free : are_free_to_go l.self l.handle (drop l.pair-index l.pairs) ≡ true;
  same : (ds : List Meaning) → all_uninstalled ds l.handle (drop l.pair-index l.pairs) l.self
      ≡ all_uninstalled ds l.handle l.pairs l.fn.self;
}
