use Rattle.std.proofs.Common.{◌≡◌, List, drop, IfSome}
use Rattle.std.specs.List.{AllByRecursion, concat, filter_map}
use Rattle.device_path_locate.specs.DevicePaths.{Node}
use Rattle.device_path_locate.specs.Locating.{longest, match_of}
use Rattle.device_path_locate.specs.Reading.{IsBoundary, IsInstanceNode, longer_if}
use Rattle.device_path_locate.proofs.matches.best_from.Given as goal

abbrev pub invariant-loop-handle : goal.invariant-loop-handle
invariant-loop-handle g l = record {
  found : (ns : List Node) → AllByRecursion IsInstanceNode ns → l.nodes ≡ concat ns →
      longer_if l.best (longest (filter_map (match_of l.handles l.pools.extents ns) (drop l.handle-index l.holders))) ≡ longest (filter_map (match_of l.handles l.pools.extents ns) l.holders);
  boundary : IfSome l.best (λ m. IsBoundary l.nodes m.1);
}
