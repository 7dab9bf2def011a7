use Rattle.std.proofs.Common.{subst}
use Rattle.boot_calls.specs.declared.calls.Call.TheVariants as call
use Rattle.c_interface.specs.Served.{AnswersNumber}
use Rattle.c_interface.proofs.efi_core.EfiCore.register_protocol_notify.Goals as goal

pub returns : goal.returns
returns g c = subst (λ guid. AnswersNumber c.args.self.now (call.RegisterProtocolNotify guid c.args.event) c.args.key.now c.answer_number.result c.answer_number.new.place c.answer_number.new.self) c.uuid-guid.ensures c.answer_number.ensures
