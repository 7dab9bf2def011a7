use Rattle.page_ranges.proofs.MaximalRuns.{runs_of-maximal, pages_of-runs_of, runs_of-pages_of}
use Rattle.page_ranges.proofs.laws.maximal_runs_law.Goals as goal

pub returns : goal.returns
returns c = (λ m a. (runs_of-maximal m a, pages_of-runs_of m), runs_of-pages_of)
