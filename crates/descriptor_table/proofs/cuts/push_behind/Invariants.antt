use Rattle.std.proofs.Common.{◌≡◌, ◌+◌, ◌<◌, ◌≤◌, ◌++◌, length, get_or, take}
use Rattle.std.specs.Prelude.{vec_capacity}
use Rattle.page_ranges.specs.declared.ranges.Run.{Run}
use Rattle.page_ranges.specs.Memory.{retyped}
use Rattle.page_ranges.specs.Runs.{pages_of, AreMaximalRuns}
use Rattle.descriptor_table.specs.LeafChanges.{EndsWith}
use Rattle.descriptor_table.specs.Reserves.{cut_count}
use Rattle.descriptor_table.specs.Tables.{AreMaximalUpTo}
use Rattle.descriptor_table.proofs.cuts.push_behind.Given as goal

-- the runs so far, retyped, after those that were there, and what is to come begins where they end or above
abbrev pub invariant-loop-run : goal.invariant-loop-run
invariant-loop-run g l = record {
  pages : pages_of l.parts.items ≡ pages_of l.initial.parts.items ++ retyped l.range l.mtype l.owner (pages_of (take l.run-index l.runs));
  order : AreMaximalRuns l.parts.items;
  next : (r : Run) → l.run-index < length l.runs → r ≡ get_or l.runs l.run-index r → AreMaximalUpTo r.range.first l.parts.items;
  ends : EndsWith (take l.run-index l.runs) l.initial.parts.items l.parts.items;
  few : length l.parts.items ≤ length l.initial.parts.items + (l.run-index + cut_count l.range (take l.run-index l.runs));
  capacity : vec_capacity l.initial.parts ≤ vec_capacity l.parts;
}
