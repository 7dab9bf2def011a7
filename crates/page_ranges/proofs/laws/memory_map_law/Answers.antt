use Rattle.page_ranges.proofs.Maps.{map_is_map}
use Rattle.page_ranges.proofs.laws.memory_map_law.Goals as goal

pub returns : goal.returns
returns c = map_is_map
