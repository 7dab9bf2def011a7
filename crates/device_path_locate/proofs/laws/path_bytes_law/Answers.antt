use Rattle.device_path_locate.proofs.NodeLists.{begins_with}
use Rattle.device_path_locate.proofs.Fronts.{read_of}
use Rattle.device_path_locate.proofs.laws.path_bytes_law.Goals as goal

pub returns : goal.returns
returns c = λ bytes ns. (begins_with bytes ns, read_of bytes ns)
