use Rattle.std.proofs.Common.{append_assoc}
use Rattle.reply_texts.proofs.protocol_replies.print_pool_list.Goals as goal

pub returns-in-Ok : goal.returns-in-Ok
returns-in-Ok g c = rw c.in-Ok.is (simp append_assoc (rw (c.name-verb.ensures, c.in_radix.ensures) at c.writeln.ensures.bytes))
