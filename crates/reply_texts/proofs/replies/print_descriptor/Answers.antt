-- One tactic and no second after it: a body that is wrong is then refused sooner.
use Rattle.std.proofs.Common.{arith}
use Rattle.std.proofs.lemmas.Grind.{common_steps}
use Rattle.reply_texts.proofs.replies.print_descriptor.Goals as goal

pub returns : goal.returns
returns g c = grind (arith, common_steps)
