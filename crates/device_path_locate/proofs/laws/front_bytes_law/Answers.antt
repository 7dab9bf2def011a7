use Rattle.device_path_locate.proofs.Fronts.{front_has, has_front}
use Rattle.device_path_locate.proofs.laws.front_bytes_law.Goals as goal

pub returns : goal.returns
returns c = λ ns ms a b. (front_has ns ms, has_front ns ms a b)
