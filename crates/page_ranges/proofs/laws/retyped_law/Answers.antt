use Rattle.page_ranges.proofs.Retyped.{retyped-proper}
use Rattle.page_ranges.proofs.laws.retyped_law.Goals as goal

pub returns : goal.returns
returns c = λ m range t o given proper. retyped-proper range t o given m proper
