use Rattle.std.proofs.Common.{◌≡◌, drop}
use Rattle.page_ranges.specs.MemoryMap.{memory_map}
use Rattle.page_ranges.specs.Runs.{pages_of}
use Rattle.plain_search.proofs.plain.plain_map.Given as goal

-- the entries of the runs from here on
abbrev pub invariant-loop-i : goal.invariant-loop-i
invariant-loop-i g l = l.entries.items ≡ memory_map (pages_of (drop l.i l.runs))
