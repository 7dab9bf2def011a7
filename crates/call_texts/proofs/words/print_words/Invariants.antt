use Rattle.std.proofs.Common.{◌≡◌, ◌++◌, map, take, string_bytes}
use Rattle.call_texts.specs.CallText.{spaced}
use Rattle.call_texts.specs.WordText.{word_text}
use Rattle.call_texts.proofs.words.print_words.Given as goal

abbrev pub invariant-loop-word : goal.invariant-loop-word
invariant-loop-word g l = string_bytes l.text ≡ string_bytes l.initial.text ++ spaced (map word_text (take l.word-index l.words))
