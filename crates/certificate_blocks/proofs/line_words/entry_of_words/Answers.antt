use Rattle.std.proofs.Common.{map, inl, inr, sym, rules, arith}
use Rattle.std.proofs.lemmas.Grind.{common_steps}
use Rattle.std.proofs.lemmas.List.{length-map}
use Rattle.certificate_blocks.proofs.BlockWords.{entry_other}
use Rattle.certificate_blocks.proofs.line_words.entry_of_words.Goals.{in_default-via-then-words-lt4, in_default-via-else-words-lt4+else-words-lt5}
use Rattle.certificate_blocks.proofs.line_words.entry_of_words.Goals as goal

pub returns-in_default : goal.returns-in_default
returns-in_default c = elim c.in_default.branch [
  | in_default-via-then-words-lt4 w ↦ sym (entry_other (map (λ word. word.now) c.args.words.now) (inl (rw length-map (search rules))))
  | in_default-via-else-words-lt4+else-words-lt5 w ↦ sym (entry_other (map (λ word. word.now) c.args.words.now) (inr (rw length-map (search rules))))
]

pub returns-in-len4 : goal.returns-in-len4
returns-in-len4 c = grind (arith, common_steps)
