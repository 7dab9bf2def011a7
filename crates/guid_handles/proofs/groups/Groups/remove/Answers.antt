use Rattle.std.proofs.Common.{◌≡◌, false, true, is_some, sym, ap, ◌∙◌}
use Rattle.guid_handles.proofs.Grouped.{none_stamped}
use Rattle.guid_handles.proofs.groups.Groups.remove.Goals as goal

pub returns-in_default : goal.returns-in_default
returns-in_default g c =
    let w : false ≡ true = sym (ap is_some (none_stamped _ c.args.guid c.args.handle (rw c.as_slice.ensures.value at c.in_default.ensures.none))) ∙ rw (← c.self.view_is) at c.requires in absurd cc

pub place_of-requires : goal.place_of-requires
place_of-requires g c = rw c.as_slice.ensures.value c.self.invariant.ascending

pub remove_at-requires-clause-place : goal.remove_at-requires-clause-place
remove_at-requires-clause-place g c = rw (← c.self.view_is) (rw c.as_slice.ensures.value at c.in-Some.ensures.there)
