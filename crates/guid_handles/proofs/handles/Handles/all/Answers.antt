use Rattle.std.proofs.Common.{sym}
use Rattle.guid_handles.proofs.Numbered.{live_numbers}
use Rattle.guid_handles.proofs.handles.Handles.all.Goals as goal

pub returns-clause-numbers : goal.returns-clause-numbers
returns-clause-numbers g c = rw (← c.self.view_is, c.numbers.ensures) (sym (live_numbers _))
