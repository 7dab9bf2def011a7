use Rattle.std.proofs.Common.{sym}
use Rattle.guid_handles.proofs.Grouped.{next_found, next_none}
use Rattle.guid_handles.proofs.groups.Groups.after.Goals as goal

pub group_of-requires : goal.group_of-requires
group_of-requires g c = rw c.as_slice.ensures.value c.self.invariant.ascending

pub returns-in-Some : goal.returns-in-Some
returns-in-Some g c = rw (← c.self.view_is) (next_found _ c.args.guid c.args.mark _ _ (rw c.as_slice.ensures.value at c.in-Some.ensures) c.after.ensures)

pub returns-in-None : goal.returns-in-None
returns-in-None g c = rw (← c.self.view_is) (next_none _ c.args.guid c.args.mark (sym (rw c.as_slice.ensures.value at c.in-None.ensures)))
