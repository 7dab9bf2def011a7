use Rattle.std.proofs.Common.{sym}
use Rattle.std.proofs.lemmas.Bool.{ltb-true}
use Rattle.guid_handles.proofs.SortedLists.{last_least}
use Rattle.guid_handles.proofs.searches.is_above.Goals as goal

pub returns-in-Some : goal.returns-in-Some
returns-in-Some c = λ h. last_least c.args.number c.args.numbers.now c.in-Some.last.now c.requires (sym c.in-Some.ensures.value) (ltb-true _ _ h)
