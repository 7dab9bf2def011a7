use Rattle.c_interface.proofs.PrintedReplies.{printed_reply}
use Rattle.c_interface.proofs.laws.printed_reply_law.Goals as goal

pub returns : goal.returns
returns g c = λ old new asked answer number text serves prints. printed_reply old new asked answer number text serves prints
