use Rattle.std.proofs.Common.{◌≡◌, ◌++◌, string_bytes, flat_map, map, take}
use Rattle.certificate_blocks.specs.BlockText.{bound_words, printed_line}
use Rattle.certificate_blocks.proofs.printing.print_bounds.Given as goal

abbrev pub invariant-loop-bound : goal.invariant-loop-bound
invariant-loop-bound g l = string_bytes l.text ≡ string_bytes l.initial.text ++ flat_map printed_line (map bound_words (take l.bound-index l.bounds))
