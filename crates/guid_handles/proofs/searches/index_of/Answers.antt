use Rattle.std.proofs.Common.{false, sym, ◌∙◌}
use Rattle.guid_handles.proofs.PlaceLists.{is_there}
use Rattle.guid_handles.proofs.searches.index_of.Goals as goal

pub returns-else-is_number_at-2-clause-none : goal.returns-else-is_number_at-2-clause-none
returns-else-is_number_at-2-clause-none c = is_there _ c.args.number _ false c.requires c.count_less-at.ensures.place (sym c.is_number_at-2.ensures ∙ c.if-is_number_at-2.false)
