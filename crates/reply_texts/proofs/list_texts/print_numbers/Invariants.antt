use Rattle.std.proofs.Common.{◌≡◌, ◌++◌, take, string_bytes}
use Rattle.reply_texts.specs.ListTexts.{numbers_text}
use Rattle.reply_texts.proofs.list_texts.print_numbers.Given as goal

abbrev pub invariant-loop-index : goal.invariant-loop-index
invariant-loop-index g l = string_bytes l.text ≡ string_bytes l.initial.text ++ numbers_text (take l.index l.numbers)
