use Rattle.std.proofs.Common.{sym}
use Rattle.guid_handles.proofs.TakenBack.{last_highest}
use Rattle.guid_handles.proofs.handles.last_above.Goals as goal

pub returns-else-last-number-clause-none : goal.returns-else-last-number-clause-none
returns-else-last-number-clause-none c = last_highest c.args.number c.args.numbers.now c.in_ok-last.field-0.now c.requires (sym c.in_ok-last.ensures.value) c.if-last-number.false
