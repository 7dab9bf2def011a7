use Rattle.std.proofs.Common.{subst, map}
use Rattle.boot_calls.specs.declared.calls.Call.TheVariants as call
use Rattle.c_machines.specs.Guids.{interface_in}
use Rattle.c_interface.specs.Served.{AnswersNumber}
use Rattle.region_services_c.specs.Cores.{Core}
use Rattle.region_services_c.proofs.protocols.RafkudinInstallMultipleProtocolInterfaces.Goals as goal

pub returns : goal.returns
returns c = subst (λ (core : Core). AnswersNumber core (call.InstallMultipleProtocolInterfaces c.args.handle.now (map interface_in c.args.interfaces.now)) c.args.handle.now c.install_multiple.result c.install_multiple.new.handle c.install_multiple.new.self) c.held.ensures.value c.install_multiple.ensures
