use Rattle.std.proofs.Common.{subst}
use Rattle.boot_calls.specs.declared.calls.Call.TheVariants as call
use Rattle.c_machines.specs.Guids.{guid_in}
use Rattle.c_interface.specs.Served.{AnswersNumber}
use Rattle.boot_services_c.specs.Cores.{Core}
use Rattle.boot_services_c.proofs.protocols.RafkudinInstallProtocolInterface.Goals as goal

pub returns : goal.returns
returns c = subst (λ (core : Core). AnswersNumber core (call.InstallProtocolInterface c.args.handle.now (guid_in c.args.guid.now) c.args.kind c.args.value) c.args.handle.now c.install_protocol_interface.result c.install_protocol_interface.new.handle c.install_protocol_interface.new.self) c.held.ensures.value c.install_protocol_interface.ensures
