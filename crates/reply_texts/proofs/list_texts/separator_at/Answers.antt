use Rattle.std.proofs.Common.{refl, ne_eqb}
use Rattle.reply_texts.proofs.list_texts.separator_at.Goals as goal

pub returns-then-index-eq0 : goal.returns-then-index-eq0
returns-then-index-eq0 c = rw c.if-index-eq0.true refl

pub returns-else-index-eq0 : goal.returns-else-index-eq0
returns-else-index-eq0 c = rw (ne_eqb c.args.index 0 c.if-index-eq0.false) refl
