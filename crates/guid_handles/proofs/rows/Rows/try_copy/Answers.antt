use Rattle.std.proofs.Common.{refl}
use Rattle.guid_handles.proofs.PlacedRows.{cloned_rows}
use Rattle.guid_handles.proofs.rows.Rows.try_copy.Goals as goal

pub invariant_of-result : goal.invariant_of-result
invariant_of-result g c =
    rw (c.in_ok-numbers.ensures.items, c.as_slice.ensures.value, c.in_ok-places.ensures.items, c.as_slice-2.ensures.value, c.in_ok-made.ensures, cloned_rows c.self.inside.rows.slots c.in_ok-rows.rows.slots c.in_ok-rows.ensures.cases.slots) c.self.invariant

pub returns : goal.returns
returns g c = rw (← c.self.view_is, c.in_ok-places.ensures.items, c.as_slice-2.ensures.value, cloned_rows c.self.inside.rows.slots c.in_ok-rows.rows.slots c.in_ok-rows.ensures.cases.slots) refl
