use Rattle.guid_handles.proofs.number_lists.NumberLists.of_map.Goals as goal

pub invariant_of-result : goal.invariant_of-result
invariant_of-result g c = rw (c.push_reserved.ensures.items, c.in_ok-maps.ensures.items) c.requires
