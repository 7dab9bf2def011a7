use Rattle.std.proofs.Common.{◌≡◌, ◌++◌, string_bytes}
use Rattle.std.specs.List.{flat_map}
use Rattle.page_ranges.specs.MemoryMap.{memory_map}
use Rattle.reply_texts.specs.PrintedText.{descriptor_line}
use Rattle.boot_trace.proofs.listings.print_map_entries.Given as goal

abbrev pub invariant-loop-entry : goal.invariant-loop-entry
invariant-loop-entry g l = record {
  printed : string_bytes l.text ≡ string_bytes l.initial.text ++ flat_map descriptor_line l.yielded;
  left : l.yielded ++ l.entry-iterator ≡ memory_map l.services.state.parts.book.memory;
}
