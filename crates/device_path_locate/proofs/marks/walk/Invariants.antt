use Rattle.std.proofs.Common.{◌-◌, ◌≤◌, length}
use Rattle.device_path_locate.proofs.Walks.{IsWalked}
use Rattle.device_path_locate.proofs.marks.walk.Given as goal

abbrev pub invariant-loop-count : goal.invariant-loop-count
invariant-loop-count l = record {
  within : l.at ≤ length l.nodes;
  limited : l.count ≤ l.limit;
  walked : IsWalked l.nodes l.from l.at l.count;
}

abbrev pub decreases-loop-count : goal.decreases-loop-count
decreases-loop-count l = l.limit - l.count
