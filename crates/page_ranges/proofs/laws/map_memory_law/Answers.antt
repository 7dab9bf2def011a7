use Rattle.page_ranges.proofs.Maps.{memory_of-proper, map_of_memory_of}
use Rattle.page_ranges.proofs.laws.map_memory_law.Goals as goal

pub returns : goal.returns
returns c = λ ds is. (memory_of-proper ds is, map_of_memory_of ds is)
