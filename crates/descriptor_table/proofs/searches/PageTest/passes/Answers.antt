-- One search and no second tactic after it: a body that is wrong is then refused sooner.
use Rattle.std.proofs.Common.{rules}
use Rattle.descriptor_table.proofs.searches.PageTest.passes.Goals as goal

pub returns-in-Conventional : goal.returns-in-Conventional
returns-in-Conventional c = search rules

pub returns-in-OwnedBy : goal.returns-in-OwnedBy
returns-in-OwnedBy c = search rules
