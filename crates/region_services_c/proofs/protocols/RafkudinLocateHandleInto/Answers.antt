use Rattle.std.proofs.Common.{length, subst}
use Rattle.boot_calls.specs.declared.calls.Call.TheVariants as call
use Rattle.c_machines.specs.Guids.{guid_in}
use Rattle.c_interface.specs.Served.{AnswersHandles, handle_bytes}
use Rattle.region_services_c.specs.Cores.{Core}
use Rattle.region_services_c.proofs.protocols.RafkudinLocateHandleInto.Goals as goal

pub returns : goal.returns
returns c = subst (λ (core : Core). AnswersHandles core (call.LocateHandle c.args.search (guid_in c.args.guid.now) c.args.key (handle_bytes (length c.args.buffer.now))) c.args.needed.now c.args.buffer.now c.locate_handle.result c.locate_handle.new.needed c.locate_handle.new.buffer c.locate_handle.new.self) c.held.ensures.value c.locate_handle.ensures
