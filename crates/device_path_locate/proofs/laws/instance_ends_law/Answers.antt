use Rattle.std.proofs.Common.{refl}
use Rattle.device_path_locate.proofs.Fronts.{not_first}
use Rattle.device_path_locate.proofs.laws.instance_ends_law.Goals as goal

pub returns : goal.returns
returns c = λ path ns e. rw (not_first path ns e) refl
