use Rattle.std.proofs.Common.{sym, ◌∙◌}
use Rattle.guid_handles.specs.NumberLists.{ChangesList, without}
use Rattle.guid_handles.proofs.FirstMap.{first_changed}
use Rattle.guid_handles.proofs.number_lists.NumberLists.remove.Goals as goal

pub returns-then-not-is_empty : goal.returns-then-not-is_empty
returns-then-not-is_empty g c =
    rw (← c.self.view_is)
    (first_changed (ChangesList c.args.number (without c.args.member)) c.self.inside.maps.items _ _ _ c.self.inside.maps.ok.0 (sym c.is_empty.ensures ∙ c.if-not-is_empty.true) c.index_mut.ensures.value c.remove_in.ensures.list)
