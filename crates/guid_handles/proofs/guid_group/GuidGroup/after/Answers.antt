use Rattle.guid_handles.proofs.Beside.{next_is_least}
use Rattle.guid_handles.proofs.guid_group.GuidGroup.after.Goals as goal

pub next_after-requires : goal.next_after-requires
next_after-requires g c = rw (c.as_slice.ensures.value, c.as_slice-2.ensures.value) c.self.invariant.even

pub returns : goal.returns
returns g c = rw (← c.self.view_is, c.next_after.ensures, c.as_slice.ensures.value, c.as_slice-2.ensures.value) (next_is_least c.args.mark _ _ c.self.invariant)
