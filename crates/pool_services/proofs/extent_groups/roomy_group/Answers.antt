use Rattle.pool_services.proofs.extent_groups.roomy_group.Goals as goal

pub returns : goal.returns
returns g c = record {
  extents = c.in_ok-split.ensures.extents;
  apart = c.in_ok-split.ensures.apart;
  group = rw c.as_slice-2.ensures.value at c.group_up_to.ensures;
  some = c.in_ok-split.ensures.some;
}
