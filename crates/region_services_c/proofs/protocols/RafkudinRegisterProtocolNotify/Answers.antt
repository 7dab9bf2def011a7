use Rattle.std.proofs.Common.{subst}
use Rattle.boot_calls.specs.declared.calls.Call.TheVariants as call
use Rattle.c_machines.specs.Guids.{guid_in}
use Rattle.c_interface.specs.Served.{AnswersNumber}
use Rattle.region_services_c.specs.Cores.{Core}
use Rattle.region_services_c.proofs.protocols.RafkudinRegisterProtocolNotify.Goals as goal

pub returns : goal.returns
returns c = subst (λ (core : Core). AnswersNumber core (call.RegisterProtocolNotify (guid_in c.args.guid.now) c.args.event) c.args.key.now c.register_protocol_notify.result c.register_protocol_notify.new.key c.register_protocol_notify.new.self) c.held.ensures.value c.register_protocol_notify.ensures
