use Rattle.std.proofs.Common.{subst}
use Rattle.boot_calls.specs.declared.calls.Call.TheVariants as call
use Rattle.c_machines.specs.Guids.{guid_in}
use Rattle.c_interface.specs.Served.{AnswersNumber}
use Rattle.boot_services_c.specs.Cores.{Core}
use Rattle.boot_services_c.proofs.protocols.RafkudinLocateProtocol.Goals as goal

pub returns : goal.returns
returns c = subst (λ (core : Core). AnswersNumber core (call.LocateProtocol (guid_in c.args.guid.now) c.args.key) c.args.value.now c.locate_protocol.result c.locate_protocol.new.value c.locate_protocol.new.self) c.held.ensures.value c.locate_protocol.ensures
