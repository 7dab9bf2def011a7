use Rattle.std.proofs.Common.{◌==◌, ap, is_some}
use Rattle.guid_handles.proofs.Grouped.{none_here, tells_here}
use Rattle.guid_handles.proofs.searches.is_number_at.Goals as goal

pub returns-in-Some : goal.returns-in-Some
returns-in-Some c = tells_here (λ n. n == c.args.number) c.args.numbers.now c.args.at c.in-Some.n.now c.in-Some.ensures.lookup.3.0 c.in-Some.ensures.lookup.1

pub returns-in-None : goal.returns-in-None
returns-in-None c = ap is_some (none_here (λ n. n == c.args.number) c.args.numbers.now c.args.at c.in-None.ensures.lookup.3)
