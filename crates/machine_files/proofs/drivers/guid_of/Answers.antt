use Rattle.std.proofs.Common.{◌∙◌, refl}
use Rattle.uuid.specs.Text.{parsed}
use Rattle.machine_files.specs.DriverText.{guid_of}
use Rattle.machine_files.proofs.DriverMembers.{read_if_said}
use Rattle.machine_files.proofs.drivers.guid_of.Goals as goal

pub returns : goal.returns
unfolding guid_of
returns c = c.ok.ensures.value ∙ read_if_said c.try_parse.result (parsed c.in_ok-text.text.now) c.try_parse.ensures.ok c.try_parse.ensures.bytes ∙ rw (← c.in_ok-text.ensures) refl
