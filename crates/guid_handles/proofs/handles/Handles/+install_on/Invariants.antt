use Rattle.std.proofs.Common.{length}
use Rattle.guid_handles.proofs.handles.Handles.+install_on.Given as goal

abbrev pub decreases-install_on : goal.decreases-install_on
decreases-install_on g l = length l.pairs.now
