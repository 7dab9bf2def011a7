use Rattle.std.proofs.Common.{◌≡◌, map, drop}
use Rattle.std.specs.List.{list_all}
use Rattle.driver_connect.specs.Stopping.{may_stop}
use Rattle.driver_connect.proofs.protocols.Lists.may_all_stop.Given as goal

abbrev pub invariant-loop-pair : goal.invariant-loop-pair
invariant-loop-pair g l =
    list_all (may_stop (map g.D.Driver.meaning l.drivers) l.self.handles.now l.self.opens.now) l.pairs
    ≡ list_all (may_stop (map g.D.Driver.meaning l.drivers) l.self.handles.now l.self.opens.now) (drop l.pair-index l.pairs)
