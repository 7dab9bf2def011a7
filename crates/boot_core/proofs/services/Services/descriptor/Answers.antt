-- One search and no second tactic after it: a body that is wrong is then refused sooner.
use Rattle.std.proofs.Common.{rules}
use Rattle.boot_core.proofs.services.Services.descriptor.Goals as goal

pub returns : goal.returns
returns c = search rules
