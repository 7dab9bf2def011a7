use Rattle.std.proofs.Common.{◌==◌, not, refl, sym}
use Rattle.std.specs.List.{filter}
use Rattle.guid_handles.proofs.Numbered.{changes_none}
use Rattle.guid_handles.proofs.PlacedRows.{changed_lives, kept_rows, keys_changed, no_row, one_at}
use Rattle.guid_handles.proofs.rows.Rows.remove_key.Goals as goal

pub remove_key_at-requires : goal.remove_key_at-requires
remove_key_at-requires g c =
    let place = rw (c.as_slice.ensures.value, c.as_slice-2.ensures.value) at c.in-Some.ensures in
    one_at c.args.number _ _ _ _ c.self.invariant.rows (sym place)

pub invariant_of-self : goal.invariant_of-self
invariant_of-self g c = kept_rows _ _ _ _ _ (changed_lives _ _ _ _ c.remove_key_at.ensures) c.self.invariant

pub returns-in-Some : goal.returns-in-Some
returns-in-Some g c =
    let place = rw (c.as_slice.ensures.value, c.as_slice-2.ensures.value) at c.in-Some.ensures in
    rw (← c.self.view_is) (keys_changed c.args.number _ _ _ _ _ _ c.self.invariant.rows (sym place) c.remove_key_at.ensures)

pub returns-in_default : goal.returns-in_default
returns-in_default g c =
    let none = no_row c.args.number _ _ _ c.self.invariant.rows (rw (c.as_slice.ensures.value, c.as_slice-2.ensures.value) at c.in_default.ensures) in
    rw (← c.self.view_is) (changes_none _ c.args.number (filter (λ k. not (k == c.args.key))) refl none)
