use Rattle.page_ranges.proofs.Retyped.{machine_type, retyped-typed}
use Rattle.page_ranges.proofs.laws.retyped_types_law.Goals as goal

pub returns : goal.returns
returns c = λ m range t o named typed. retyped-typed range t o (machine_type t named) m typed
