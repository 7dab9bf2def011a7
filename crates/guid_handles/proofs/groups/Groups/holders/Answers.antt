use Rattle.guid_handles.proofs.Grouped.{holders_returned}
use Rattle.guid_handles.proofs.groups.Groups.holders.Goals as goal

pub group_of-requires : goal.group_of-requires
group_of-requires g c = rw c.as_slice.ensures.value c.self.invariant.ascending

pub returns-in-Some-clause-those : goal.returns-in-Some-clause-those
returns-in-Some-clause-those g c =
    rw (← c.self.view_is, c.holders.ensures.holders) (holders_returned _ c.args.guid _ (rw c.as_slice.ensures.value at c.in-Some.ensures) c.holders.ensures.even)
