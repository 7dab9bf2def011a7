use Rattle.std.proofs.Common.{drop}
use Rattle.page_ranges.specs.MemoryMap.{IsMap}
use Rattle.placement_certificate.proofs.entries.is_map.Given as goal

-- the entries from here on are a map
abbrev pub invariant-loop-index : goal.invariant-loop-index
invariant-loop-index l = IsMap (drop l.index l.map)
