use Rattle.guid_handles.proofs.SortedLists.{all_less}
use Rattle.guid_handles.proofs.searches.count_less_than_new.Goals as goal

pub returns-then-is_above-clause-place : goal.returns-then-is_above-clause-place
returns-then-is_above-clause-place c = all_less c.args.number c.args.numbers.now (c.is_above.ensures c.if-is_above.true)
