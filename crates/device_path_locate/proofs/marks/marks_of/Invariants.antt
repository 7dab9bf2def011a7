use Rattle.std.specs.List.{AllByRecursion}
use Rattle.device_path_locate.specs.Reading.{IsBoundary}
use Rattle.device_path_locate.proofs.marks.marks_of.Given as goal

abbrev pub invariant-loop-index : goal.invariant-loop-index
invariant-loop-index l = record {
  marked : AllByRecursion (IsBoundary l.nodes) l.marks;
  boundary : IsBoundary l.nodes l.at;
}
