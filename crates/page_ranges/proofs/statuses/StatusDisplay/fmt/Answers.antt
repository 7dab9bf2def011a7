-- One term and no search: a body that is wrong is then refused sooner.
use Rattle.page_ranges.proofs.statuses.StatusDisplay.fmt.Goals as goal

pub returns-clause-writes : goal.returns-clause-writes
returns-clause-writes g c = λ p o. rw (← c.name.ensures) (c.write_str.ensures.writes p o)
