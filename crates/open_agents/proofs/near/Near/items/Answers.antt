use Rattle.open_agents.proofs.NearRuns.{items_run}
use Rattle.open_agents.proofs.near.Near.items.Goals as goal

pub returns-clause-runs : goal.returns-clause-runs
returns-clause-runs c = items_run
