use Rattle.std.proofs.Common.{subst}
use Rattle.boot_calls.specs.declared.calls.Call.TheVariants as call
use Rattle.c_machines.specs.Guids.{guid_in}
use Rattle.c_interface.specs.Opening.{AnswersOpen}
use Rattle.region_services_c.specs.Cores.{Core}
use Rattle.region_services_c.proofs.protocols.RafkudinOpenProtocol.Goals as goal

pub returns : goal.returns
returns c = subst (λ (core : Core). AnswersOpen core (call.OpenProtocol c.args.handle (guid_in c.args.guid.now) c.args.agent c.args.controller c.args.attributes) c.args.value.now c.open_giving.result c.open_giving.new.value c.open_giving.new.self) c.held.ensures.value c.open_giving.ensures
