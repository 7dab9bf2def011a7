use Rattle.guid_handles.proofs.guid_group.GuidGroup.try_copy.Goals as goal

pub invariant_of-result : goal.invariant_of-result
invariant_of-result g c = rw (c.in_ok-holders.ensures.items, c.as_slice.ensures.value, c.in_ok-stamps.ensures.items, c.as_slice-2.ensures.value) c.self.invariant

pub returns : goal.returns
returns g c = rw (c.in_ok-holders.ensures.items, c.as_slice.ensures.value, c.in_ok-stamps.ensures.items, c.as_slice-2.ensures.value) c.self.view_is
