use Rattle.std.proofs.Common.{append_assoc}
use Rattle.reply_texts.proofs.replies.print_value.Goals as goal

pub returns : goal.returns
returns g c = simp append_assoc (rw (c.name-verb.ensures, c.in_radix.ensures) at c.writeln.ensures.bytes)
