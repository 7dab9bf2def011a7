use Rattle.std.proofs.Common.{◌≡◌, ◌≤◌, ◌++◌, drop, length, map}
use Rattle.page_ranges.specs.MemoryMap.{memory_map}
use Rattle.c_interface.specs.Checks.{entry_in_c}
use Rattle.c_interface.proofs.efi_core.EfiCore.map.Given as goal

abbrev pub invariant-loop-found : goal.invariant-loop-found
invariant-loop-found g l = record {
  copied : l.entries ≡ map entry_in_c l.yielded ++ drop l.used l.fn.entries;
  used : l.used ≡ length l.yielded;
  room : l.used ≤ length l.fn.entries;
  left : l.yielded ++ l.found-iterator ≡ memory_map l.self.core.state.parts.book.memory;
}
