use Rattle.std.proofs.Common.{◌∙◌}
use Rattle.guid_handles.proofs.PlaceLists.{none_goes, place_gone}
use Rattle.guid_handles.proofs.short_list.ShortList.remove_ascending.Goals as goal

pub ascending_index-requires : goal.ascending_index-requires
ascending_index-requires g c = rw c.as_slice.ensures (rw (← c.self.view_is) at c.requires)

pub returns-in-Some : goal.returns-in-Some
returns-in-Some g c =
    rw (← c.self.view_is) (c.remove.ensures.items ∙ place_gone _ _ c.args.number (rw (← c.self.view_is) at c.requires) (rw c.as_slice.ensures at c.in-Some.ensures.there))

pub returns-in_default : goal.returns-in_default
returns-in_default g c = rw (← c.self.view_is) (none_goes _ c.args.number (rw c.as_slice.ensures at c.in_default.ensures.none))
