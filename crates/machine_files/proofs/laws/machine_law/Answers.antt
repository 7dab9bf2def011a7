use Rattle.machine_files.proofs.MachineOrder.{machine_in}
use Rattle.machine_files.proofs.laws.machine_law.Goals as goal

pub returns : goal.returns
returns c = λ bytes runs e. machine_in bytes runs e
