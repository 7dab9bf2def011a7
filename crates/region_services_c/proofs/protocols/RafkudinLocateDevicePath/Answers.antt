use Rattle.std.proofs.Common.{subst}
use Rattle.boot_calls.specs.declared.calls.Call.TheVariants as call
use Rattle.c_machines.specs.Guids.{guid_in}
use Rattle.c_interface.specs.Served.{AnswersNumbers}
use Rattle.region_services_c.specs.Cores.{Core}
use Rattle.region_services_c.proofs.protocols.RafkudinLocateDevicePath.Goals as goal

pub returns : goal.returns
returns c = subst (λ (core : Core). AnswersNumbers core (call.LocateDevicePath (guid_in c.args.guid.now) c.args.path.now) (c.args.device.now, c.args.path.now) c.locate_device_path.result (c.locate_device_path.new.device, c.locate_device_path.new.path) c.locate_device_path.new.self) c.held.ensures.value c.locate_device_path.ensures
