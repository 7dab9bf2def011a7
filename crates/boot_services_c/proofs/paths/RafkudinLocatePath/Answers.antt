use Rattle.std.proofs.Common.{subst}
use Rattle.c_machines.specs.Guids.{guid_in}
use Rattle.c_interface.specs.Paths.{AnswersPath}
use Rattle.boot_services_c.specs.Cores.{Core}
use Rattle.boot_services_c.proofs.paths.RafkudinLocatePath.Goals as goal

pub returns : goal.returns
returns c = subst (λ (core : Core). AnswersPath core (guid_in c.args.guid.now) c.args.path.now (c.args.device.now, c.args.matched.now) c.locate_path.result (c.locate_path.new.device, c.locate_path.new.matched) c.locate_path.new.self) c.held.ensures.value c.locate_path.ensures
