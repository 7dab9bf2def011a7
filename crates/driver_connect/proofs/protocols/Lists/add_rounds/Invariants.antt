use Rattle.std.proofs.Common.{◌≡◌, ◌-◌}
use Rattle.driver_connect.specs.Stopping.{rounds}
use Rattle.driver_connect.proofs.NewPairs.{AreAsked}
use Rattle.driver_connect.proofs.protocols.Lists.add_rounds.Given as goal

abbrev pub invariant-loop-k : goal.invariant-loop-k
invariant-loop-k g l = record {
  so_far : rounds (l.count - l.k) l.self.handles.now l.self.opens.now l.set.items ≡ rounds l.count l.self.handles.now l.self.opens.now l.fn.set.items;
  older : AreAsked l.self.handles.now l.self.opens.now l.set.items l.asked;
}
