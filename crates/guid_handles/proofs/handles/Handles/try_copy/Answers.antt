use Rattle.std.proofs.Common.{refl}
use Rattle.guid_handles.proofs.Stored.{same_slots}
use Rattle.guid_handles.proofs.handles.Handles.try_copy.Goals as goal

pub invariant_of-result : goal.invariant_of-result
invariant_of-result g c = rw (c.in_ok-rows.ensures, c.in_ok-groups.ensures, same_slots c.self.inside.records.slots c.in_ok-records.records.slots c.in_ok-records.ensures.cases.slots) c.self.invariant

pub returns : goal.returns
returns g c = rw (← c.self.view_is, c.in_ok-rows.ensures, same_slots c.self.inside.records.slots c.in_ok-records.records.slots c.in_ok-records.ensures.cases.slots) refl
