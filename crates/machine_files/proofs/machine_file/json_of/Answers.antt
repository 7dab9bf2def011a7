use Rattle.std.proofs.Common.{inr, refl}
use Rattle.machine_files.proofs.JsonTexts.{no_text, text_read}
use Rattle.machine_files.proofs.machine_file.json_of.Goals as goal

pub returns-in_default : goal.returns-in_default
returns-in_default c = let e = no_text c.args.bytes.now c.in_default.ensures.cases.0 in inr (rw e refl)

pub returns : goal.returns
returns c = rw (text_read c.args.bytes.now c.in-Ok.text.now c.in-Ok.ensures.cases.0 c.in-Ok.ensures.cases.1) c.value_of.ensures
