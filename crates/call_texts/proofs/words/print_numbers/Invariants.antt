use Rattle.std.proofs.Common.{◌≡◌, ◌++◌, map, take, string_bytes}
use Rattle.std.specs.Fmt.{decimal}
use Rattle.call_texts.specs.CallText.{spaced}
use Rattle.call_texts.proofs.words.print_numbers.Given as goal

abbrev pub invariant-loop-number : goal.invariant-loop-number
invariant-loop-number g l = string_bytes l.text ≡ string_bytes l.initial.text ++ spaced (map decimal (take l.number-index l.numbers))
