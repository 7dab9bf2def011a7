-- One search and no second tactic after it: a body that is wrong is then refused sooner.
use Rattle.std.proofs.Common.{rules, arith}
use Rattle.std.proofs.lemmas.Grind.{common_steps}
use Rattle.reply_texts.proofs.replies.print_map.Goals as goal

pub returns-in_err-print_map_line-in-Success : goal.returns-in_err-print_map_line-in-Success
returns-in_err-print_map_line-in-Success g c = search rules

pub returns-in_ok-print_map_line-in-Success : goal.returns-in_ok-print_map_line-in-Success
returns-in_ok-print_map_line-in-Success g c = grind (arith, common_steps)

pub returns-in-BufferTooSmall : goal.returns-in-BufferTooSmall
returns-in-BufferTooSmall g c = search rules

pub returns-in_default : goal.returns-in_default
returns-in_default g c = search rules
