use Rattle.std.proofs.Common.{map, inl, inr, sym, rules}
use Rattle.std.proofs.lemmas.List.{length-map}
use Rattle.certificate_blocks.proofs.BlockWords.{request_other}
use Rattle.certificate_blocks.proofs.line_words.request_of.Goals.{in_default-via-then-words-lt4, in_default-via-else-words-lt4+else-words-lt5+else-words-lt6}
use Rattle.certificate_blocks.proofs.line_words.request_of.Goals as goal

pub returns-in_default : goal.returns-in_default
returns-in_default c = elim c.in_default.branch [
  | in_default-via-then-words-lt4 w ↦ sym (request_other (map (λ word. word.now) c.args.words.now) (inl (rw length-map (search rules))))
  | in_default-via-else-words-lt4+else-words-lt5+else-words-lt6 w ↦ sym (request_other (map (λ word. word.now) c.args.words.now) (inr (rw length-map (search rules))))
]
