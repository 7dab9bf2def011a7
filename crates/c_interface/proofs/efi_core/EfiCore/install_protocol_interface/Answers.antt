use Rattle.std.proofs.Common.{rules, subst}
use Rattle.boot_calls.specs.declared.calls.Call.TheVariants as call
use Rattle.c_interface.specs.Served.{AnswersNumber}
use Rattle.c_interface.proofs.efi_core.EfiCore.install_protocol_interface.Goals as goal

pub returns : goal.returns
returns g c = subst (λ guid. AnswersNumber c.args.self.now (call.InstallProtocolInterface c.args.handle.now guid c.args.kind c.args.value) c.args.handle.now c.return_number.result c.return_number.new.place c.return_number.new.self) c.uuid.ensures (search rules)
