use Rattle.std.proofs.Common.{map, inl, inr, sym, arith}
use Rattle.std.proofs.lemmas.Grind.{common_steps}
use Rattle.std.proofs.lemmas.List.{length-map}
use Rattle.certificate_blocks.proofs.BlockWords.{bound_other}
use Rattle.certificate_blocks.proofs.line_words.bound_of.Goals as goal

pub returns-in_default : goal.returns-in_default
returns-in_default c = sym (bound_other (map (λ word. word.now) c.args.words.now) (inl (rw length-map (omega arith))))

pub returns-in_default-2 : goal.returns-in_default-2
returns-in_default-2 c = sym (bound_other (map (λ word. word.now) c.args.words.now) (inr (rw length-map (omega arith))))

pub returns-in-len3 : goal.returns-in-len3
returns-in-len3 c = grind (arith, common_steps)

pub returns-in-len4 : goal.returns-in-len4
returns-in-len4 c = grind (arith, common_steps)
