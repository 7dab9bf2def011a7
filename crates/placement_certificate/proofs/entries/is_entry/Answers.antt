-- One search and no second tactic after it: a body that is wrong is then refused sooner.
use Rattle.std.proofs.Common.{rules}
use Rattle.placement_certificate.proofs.entries.is_entry.Goals as goal

pub returns-after-is_free : goal.returns-after-is_free
returns-after-is_free c = search rules
