use Rattle.std.proofs.Common.{sym, ◌∙◌}
use Rattle.c_interface.proofs.BufferTexts.{text_of}
use Rattle.c_interface.proofs.efi_core.EfiCore.map_reply_line.Goals as goal

pub returns : goal.returns
returns g c =
    text_of _ c.in-Some.status c.args.fields.now.bytes.now c.in-Ok.bytes _ c.args.fields.now.number c.args.buffer.now c.args.size.now c.reply_text.result c.reply_text.new.buffer c.reply_text.new.size
    (sym c.status_with.ensures ∙ c.in-Some.is) c.in-Ok.ensures.items c.reply_text.ensures
