use Rattle.std.proofs.Common.{◌≡◌, ◌-◌, ◌≤◌, take}
use Rattle.device_path_locate.proofs.prefixes.common_front.Given as goal

abbrev pub invariant-loop-size : goal.invariant-loop-size
invariant-loop-size l = record {
  within : l.size ≤ l.shorter;
  same : take l.size l.a ≡ take l.size l.b;
}

abbrev pub decreases-loop-size : goal.decreases-loop-size
decreases-loop-size l = l.shorter - l.size

abbrev pub invariant-loop-size-2 : goal.invariant-loop-size-2
invariant-loop-size-2 l = record {
  within : l.size ≤ l.shorter;
  same : take l.size l.a ≡ take l.size l.b;
}

abbrev pub decreases-loop-size-2 : goal.decreases-loop-size-2
decreases-loop-size-2 l = l.shorter - l.size
