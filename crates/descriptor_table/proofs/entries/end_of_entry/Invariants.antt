use Rattle.std.proofs.Common.{◌≡◌, ◌∷◌, ◌≤◌, length}
use Rattle.page_ranges.specs.MemoryTypes.{page_count}
use Rattle.page_ranges.specs.MemoryMap.{memory_map}
use Rattle.page_ranges.specs.Runs.{pages_of, AreRuns}
use Rattle.descriptor_table.specs.Tables.{EndBy}
use Rattle.descriptor_table.proofs.EntryRuns.{stretched}
use Rattle.descriptor_table.proofs.entries.end_of_entry.Given as goal

-- the map is that of the last run so far and the runs after it, its first entry stretched to begin as the first run does
abbrev pub invariant-loop-run : goal.invariant-loop-run
invariant-loop-run g l = record {
  low : l.first.range.first ≤ l.last.range.first;
  runs : AreRuns (l.last ∷ l.walk);
  ends : EndBy page_count (l.last ∷ l.walk);
  entry : memory_map (pages_of (l.first ∷ l.fn.walk)) ≡ stretched l.first (memory_map (pages_of (l.last ∷ l.walk)));
}

abbrev pub decreases-loop-run : goal.decreases-loop-run
decreases-loop-run g l = length l.walk
