use Rattle.std.proofs.Common.{subst}
use Rattle.boot_calls.specs.declared.calls.Call.TheVariants as call
use Rattle.c_machines.specs.Guids.{guid_in}
use Rattle.c_interface.specs.Served.{AnswersStatus}
use Rattle.region_services_c.specs.Cores.{Core}
use Rattle.region_services_c.proofs.protocols.RafkudinUninstallProtocolInterface.Goals as goal

pub returns : goal.returns
returns c = subst (λ (core : Core). AnswersStatus core (call.UninstallProtocolInterface c.args.handle (guid_in c.args.guid.now) c.args.value) c.uninstall_protocol_interface.result c.uninstall_protocol_interface.new.self) c.held.ensures.value c.uninstall_protocol_interface.ensures
