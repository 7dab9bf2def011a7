use Rattle.std.proofs.Common.{rules, subst}
use Rattle.boot_calls.specs.declared.calls.Call.TheVariants as call
use Rattle.c_interface.specs.Served.{AnswersStatus}
use Rattle.c_interface.proofs.efi_core.EfiCore.reinstall_protocol_interface.Goals as goal

pub returns : goal.returns
returns g c =
    subst (λ guid. AnswersStatus c.args.self.now (call.ReinstallProtocolInterface c.args.handle guid c.args.old_value c.args.new_value) c.return_status.result c.return_status.new.self) c.uuid.ensures (search rules)
