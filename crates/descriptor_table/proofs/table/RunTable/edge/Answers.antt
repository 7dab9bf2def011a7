-- One search and no second tactic after it: a body that is wrong is then refused sooner.
use Rattle.std.proofs.Common.{rules}
use Rattle.descriptor_table.proofs.table.RunTable.edge.Goals as goal

pub returns-clause-below : goal.returns-clause-below
returns-clause-below g c = search rules

pub returns-clause-above : goal.returns-clause-above
returns-clause-above g c = c.run_at.ensures.page

pub returns-clause-below_maximal : goal.returns-clause-below_maximal
returns-clause-below_maximal g c = search rules

pub returns-clause-above_maximal : goal.returns-clause-above_maximal
returns-clause-above_maximal g c = c.run_at.ensures.maximal
