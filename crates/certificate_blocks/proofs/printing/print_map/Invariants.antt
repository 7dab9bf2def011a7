use Rattle.std.proofs.Common.{◌≡◌, ◌++◌, string_bytes, flat_map, map, take}
use Rattle.certificate_blocks.specs.BlockText.{entry_words, printed_line}
use Rattle.certificate_blocks.proofs.printing.print_map.Given as goal

abbrev pub invariant-loop-entry : goal.invariant-loop-entry
invariant-loop-entry g l = string_bytes l.text ≡ string_bytes l.initial.text ++ flat_map printed_line (map entry_words (take l.entry-index l.map))
