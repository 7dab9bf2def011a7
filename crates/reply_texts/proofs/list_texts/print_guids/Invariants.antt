use Rattle.std.proofs.Common.{◌≡◌, ◌++◌, take, string_bytes}
use Rattle.reply_texts.specs.ListTexts.{guids_text}
use Rattle.reply_texts.proofs.list_texts.print_guids.Given as goal

abbrev pub invariant-loop-index : goal.invariant-loop-index
invariant-loop-index g l = string_bytes l.text ≡ string_bytes l.initial.text ++ guids_text (take l.index l.guids)
