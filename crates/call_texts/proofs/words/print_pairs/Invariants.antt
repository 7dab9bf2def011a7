use Rattle.std.proofs.Common.{◌≡◌, ◌++◌, take, string_bytes}
use Rattle.call_texts.specs.CallText.{pair_words, spaced}
use Rattle.call_texts.proofs.words.print_pairs.Given as goal

abbrev pub invariant-loop-pair : goal.invariant-loop-pair
invariant-loop-pair g l = string_bytes l.text ≡ string_bytes l.initial.text ++ spaced (pair_words (take l.pair-index l.pairs))
