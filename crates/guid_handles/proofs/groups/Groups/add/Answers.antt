use Rattle.std.proofs.Common.{sym, ◌∙◌}
use Rattle.guid_handles.proofs.Grouped.{place_returned, none_returned}
use Rattle.guid_handles.proofs.groups.Groups.add.Goals as goal

pub add_at-requires-clause-place : goal.add_at-requires-clause-place
add_at-requires-clause-place g c =
    let place = rw c.as_slice.ensures.value at c.count_before-at.ensures.place in
    let there = rw c.as_slice-2.ensures.value at c.group_if.ensures in
    rw (← c.self.view_is) (place_returned _ _ c.args.guid _ c.group_if.result c.self.invariant.ascending place there (sym c.is_some.ensures ∙ c.if-is_some.true))

pub count_before-at-requires : goal.count_before-at-requires
count_before-at-requires g c = rw c.as_slice.ensures.value c.self.invariant.ascending

pub add_at-requires-clause-absent : goal.add_at-requires-clause-absent
add_at-requires-clause-absent g c = c.requires

pub make_at-requires-clause-none : goal.make_at-requires-clause-none
make_at-requires-clause-none g c =
    let place = rw c.as_slice.ensures.value at c.count_before-at.ensures.place in
    let there = rw c.as_slice-2.ensures.value at c.group_if.ensures in
    rw (← c.self.view_is) (none_returned _ _ c.args.guid _ c.group_if.result c.self.invariant.ascending place there (sym c.is_some.ensures ∙ c.if-is_some.false))

pub make_at-requires-clause-place : goal.make_at-requires-clause-place
make_at-requires-clause-place g c = rw (← c.self.view_is) (rw c.as_slice.ensures.value at c.count_before-at.ensures.place)

pub make_at-requires-clause-bound : goal.make_at-requires-clause-bound
make_at-requires-clause-bound g c = rw (← c.self.view_is) (rw c.as_slice.ensures.value at c.count_before-at.ensures.bound)
