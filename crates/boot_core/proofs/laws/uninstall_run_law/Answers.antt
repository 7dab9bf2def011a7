use Rattle.boot_core.proofs.UninstallRuns.{uninstall_run}
use Rattle.boot_core.proofs.laws.uninstall_run_law.Goals as goal

pub returns : goal.returns
returns g c = λ ds old handle pairs new calls step. uninstall_run g.row.A.Denot ds old handle pairs new calls step
