-- One term and no search: a body that is wrong is then refused sooner.
use Rattle.std.proofs.Common.{refl}
use Rattle.page_ranges.proofs.statuses.Status.name.Goals as goal

pub returns-in-NotFound : goal.returns-in-NotFound
returns-in-NotFound c = rw c.in-NotFound.is refl

pub returns-in-OutOfResources : goal.returns-in-OutOfResources
returns-in-OutOfResources c = rw c.in-OutOfResources.is refl
