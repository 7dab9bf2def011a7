use Rattle.std.proofs.Common.{append_assoc}
use Rattle.reply_texts.proofs.replies.print_bytes.Goals as goal

pub returns : goal.returns
returns g c = simp append_assoc (rw (c.name-verb.ensures, c.in_ok-digits.ensures) at c.writeln.ensures.bytes)
