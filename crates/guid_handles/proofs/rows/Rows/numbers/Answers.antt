use Rattle.std.proofs.Common.{sym}
use Rattle.guid_handles.proofs.PlacedRows.{numbers_at}
use Rattle.guid_handles.proofs.rows.Rows.numbers.Goals as goal

pub returns : goal.returns
returns g c = rw (c.as_slice.ensures.value, ← c.self.view_is) (sym (numbers_at _ _ _ c.self.invariant.rows))
