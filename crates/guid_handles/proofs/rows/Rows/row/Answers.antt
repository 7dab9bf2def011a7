use Rattle.std.proofs.Common.{sym, ap, ◌∙◌}
use Rattle.std.specs.Option.{option_and_then}
use Rattle.guid_handles.specs.Indexes.{row_at}
use Rattle.guid_handles.proofs.PlacedRows.{found_at, no_row}
use Rattle.guid_handles.proofs.rows.Rows.row.Goals as goal

pub returns-in-Some : goal.returns-in-Some
returns-in-Some g c =
    let place = rw (c.as_slice.ensures.value, c.as_slice-2.ensures.value) at c.in-Some.ensures in
    rw (← c.self.view_is) (c.get.ensures ∙ sym (found_at c.args.number _ _ _ c.self.invariant.rows ∙ ap (option_and_then (row_at c.self.inside.rows.slots)) (sym place)))

pub returns-in-None : goal.returns-in-None
returns-in-None g c = rw (← c.self.view_is) (sym (no_row c.args.number _ _ _ c.self.invariant.rows (rw (c.as_slice.ensures.value, c.as_slice-2.ensures.value) at c.in-None.ensures)))
