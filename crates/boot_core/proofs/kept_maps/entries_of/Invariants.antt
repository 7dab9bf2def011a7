use Rattle.std.proofs.Common.{◌≡◌, ◌++◌}
use Rattle.page_ranges.specs.MemoryMap.{memory_map}
use Rattle.boot_core.proofs.kept_maps.entries_of.Given as goal

abbrev pub invariant-loop-entry : goal.invariant-loop-entry
invariant-loop-entry g l = record {
  copied : l.entries.items ≡ l.yielded;
  left : l.yielded ++ l.entry-iterator ≡ memory_map l.services.state.parts.book.memory;
}
