use Rattle.std.proofs.Common.{subst}
use Rattle.boot_calls.specs.declared.calls.Call.TheVariants as call
use Rattle.c_machines.specs.Guids.{guid_in}
use Rattle.c_interface.specs.Served.{AnswersNumbers}
use Rattle.region_services_c.specs.Cores.{Core}
use Rattle.region_services_c.proofs.protocols.RafkudinLocateHandleBuffer.Goals as goal

pub returns : goal.returns
returns c = subst (λ (core : Core). AnswersNumbers core (call.LocateHandleBuffer c.args.search (guid_in c.args.guid.now) c.args.key) (c.args.count.now, c.args.buffer.now) c.locate_handle_buffer.result (c.locate_handle_buffer.new.count, c.locate_handle_buffer.new.buffer) c.locate_handle_buffer.new.self) c.held.ensures.value c.locate_handle_buffer.ensures
