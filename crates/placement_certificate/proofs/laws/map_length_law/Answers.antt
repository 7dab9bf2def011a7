use Rattle.placement_certificate.proofs.EntryStarts.{map_length}
use Rattle.placement_certificate.proofs.laws.map_length_law.Goals as goal

pub returns : goal.returns
returns c = map_length
