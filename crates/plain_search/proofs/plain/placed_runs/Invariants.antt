use Rattle.std.proofs.Common.{◌≡◌, ◌<◌, length, get_or, take}
use Rattle.page_ranges.specs.declared.ranges.Owner.TheVariants.{Pages}
use Rattle.page_ranges.specs.declared.ranges.Run.{Run}
use Rattle.page_ranges.specs.MemoryTypes.{page_count}
use Rattle.page_ranges.specs.Memory.{retyped}
use Rattle.page_ranges.specs.Runs.{pages_of}
use Rattle.plain_search.specs.RunsBy.{AreRunsBy}
use Rattle.plain_search.proofs.plain.placed_runs.Given as goal

abbrev pub invariant-loop-run : goal.invariant-loop-run
invariant-loop-run g l = record {
  pages : pages_of l.out.items ≡ retyped l.range l.mtype Pages (pages_of (take l.run-index l.runs));
  order : AreRunsBy page_count l.out.items;
  up_to : (r : Run) → l.run-index < length l.runs → r ≡ get_or l.runs l.run-index r → AreRunsBy r.range.first l.out.items;
}
