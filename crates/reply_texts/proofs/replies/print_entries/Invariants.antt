use Rattle.std.proofs.Common.{◌≡◌, ◌++◌, take, string_bytes}
use Rattle.std.specs.List.{flat_map}
use Rattle.reply_texts.specs.PrintedText.{descriptor_line}
use Rattle.reply_texts.proofs.replies.print_entries.Given as goal

abbrev pub invariant-loop-entry : goal.invariant-loop-entry
invariant-loop-entry g l = string_bytes l.text ≡ string_bytes l.initial.text ++ flat_map descriptor_line (take l.entry-index l.entries)
