-- One term and no search: a body that is wrong is then refused sooner.
use Rattle.std.proofs.Common.{refl}
use Rattle.page_ranges.proofs.types.is_specific_purpose.Goals as goal

pub returns : goal.returns
returns c = refl
