use Rattle.std.proofs.Common.{arith, ap, ◌∙◌}
use Rattle.guid_handles.specs.Indexes.{rows_at}
use Rattle.guid_handles.proofs.Grouped.{got}
use Rattle.guid_handles.proofs.Numbered.{none_removed}
use Rattle.guid_handles.proofs.PlaceLists.{there_below}
use Rattle.guid_handles.proofs.PlacedRows.{lists_ascend, none_at, rows_without}
use Rattle.guid_handles.proofs.rows.Rows.remove.Goals as goal

pub forget_made-requires : goal.forget_made-requires
forget_made-requires g c = lists_ascend _ _ _ _ c.self.invariant

pub invariant_of-self : goal.invariant_of-self
invariant_of-self g c =
    let there = rw c.as_slice.ensures.value at c.in-Some.ensures.there in
    let below = there_below c.self.inside.numbers.items c.in-Some.at c.args.number there in
    let place = got c.self.inside.places.items c.in-Some.at c.remove-place.result (omega (arith, below, c.self.invariant.beside.even)) c.remove-place.ensures.value in
    rw (c.remove.ensures.items, c.remove-place.ensures.items) (rows_without c.args.number _ _ _ _ _ _ _ _ _ c.self.invariant there place c.take_row-live.ensures.live c.take_row-live.ensures.others c.forget_made.ensures).1

pub returns-in-Some : goal.returns-in-Some
returns-in-Some g c =
    let there = rw c.as_slice.ensures.value at c.in-Some.ensures.there in
    let below = there_below c.self.inside.numbers.items c.in-Some.at c.args.number there in
    let place = got c.self.inside.places.items c.in-Some.at c.remove-place.result (omega (arith, below, c.self.invariant.beside.even)) c.remove-place.ensures.value in
    rw (← c.self.view_is)
    (ap (rows_at c.take_row-live.new.rows.slots) c.remove-place.ensures.items
    ∙ (rows_without c.args.number _ _ _ _ _ _ _ _ _ c.self.invariant there place c.take_row-live.ensures.live c.take_row-live.ensures.others c.forget_made.ensures).0)

pub returns-in_default : goal.returns-in_default
returns-in_default g c = rw (← c.self.view_is) (none_removed _ c.args.number (none_at c.args.number _ _ _ c.self.invariant.rows (rw c.as_slice.ensures.value at c.in_default.ensures.none)))
