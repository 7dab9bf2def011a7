-- One term and no search: a body that is wrong is then refused sooner.
use Rattle.page_ranges.proofs.types.MemoryType.number.Goals as goal

pub returns : goal.returns
returns c = c.self.view_is
