-- One search and no second tactic after it: a body that is wrong is then refused sooner.
use Rattle.std.proofs.Common.{rules}
use Rattle.reply_texts.proofs.replies.print_read.Goals as goal

pub returns-in-Success : goal.returns-in-Success
returns-in-Success g c = search rules

pub returns-in_default : goal.returns-in_default
returns-in_default g c = search rules
