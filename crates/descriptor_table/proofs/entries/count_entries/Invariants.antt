use Rattle.std.proofs.Common.{◌≡◌, ◌+◌, ◌≤◌, length}
use Rattle.page_ranges.specs.MemoryTypes.{page_count}
use Rattle.page_ranges.specs.MemoryMap.{memory_map}
use Rattle.page_ranges.specs.Runs.{pages_of, AreRuns}
use Rattle.descriptor_table.specs.Tables.{EndBy}
use Rattle.descriptor_table.proofs.entries.count_entries.Given as goal

-- the entries that begin before the rest, and as many more as the rest has runs
abbrev pub invariant-loop-rest : goal.invariant-loop-rest
invariant-loop-rest l = record {
  runs : AreRuns l.rest;
  ends : EndBy page_count l.rest;
  count : l.entries + length (memory_map (pages_of l.rest)) ≡ length l.rest + length (memory_map (pages_of l.runs));
  some : length l.rest ≤ l.entries;
  bound : l.entries ≤ length l.runs;
}

abbrev pub decreases-loop-rest : goal.decreases-loop-rest
decreases-loop-rest l = length l.rest
