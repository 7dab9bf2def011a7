use Rattle.std.proofs.Common.{subst}
use Rattle.c_interface.specs.Paths.{InstallsPath}
use Rattle.region_services_c.specs.Cores.{Core}
use Rattle.region_services_c.proofs.paths.RafkudinInstallPath.Goals as goal

pub returns : goal.returns
returns c = subst (λ (core : Core). InstallsPath core c.args.path.now (c.args.handle.now, c.args.address.now) c.install_path.result (c.install_path.new.handle, c.install_path.new.address) c.install_path.new.self) c.held.ensures.value c.install_path.ensures
