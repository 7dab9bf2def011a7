use Rattle.std.proofs.Common.{◌≡◌, [], ◌∷◌, ◌++◌, false, true, is_some, ap, sym, ◌∙◌}
use Rattle.guid_handles.proofs.PlacedRows.{changed_lives, kept_rows, keys_changed, no_row, one_at, same_lives}
use Rattle.guid_handles.proofs.Refused.{either_way, when_ok}
use Rattle.guid_handles.proofs.rows.Rows.push_key.Goals as goal

pub push_key_at-requires : goal.push_key_at-requires
push_key_at-requires g c =
    let place = rw (c.as_slice.ensures.value, c.as_slice-2.ensures.value) at c.in-Some.ensures in
    one_at c.args.number _ _ _ _ c.self.invariant.rows (sym place)

pub invariant_of-self : goal.invariant_of-self
invariant_of-self g c =
    either_way c.push_key_at.result _ _ _ c.push_key_at.ensures.ok c.push_key_at.ensures.err
    (λ k. kept_rows _ _ _ _ _ (changed_lives _ _ _ _ k) c.self.invariant)
    (λ s. kept_rows _ _ _ _ _ (same_lives _ _ s) c.self.invariant)

pub returns-clause-ok : goal.returns-clause-ok
returns-clause-ok g c =
    let place = rw (c.as_slice.ensures.value, c.as_slice-2.ensures.value) at c.in-Some.ensures in
    rw (← c.self.view_is) (when_ok c.push_key_at.result _ _ (λ k. keys_changed c.args.number _ (λ ks. ks ++ c.args.key ∷ []) _ _ _ _ c.self.invariant.rows (sym place) k) c.push_key_at.ensures.ok)

pub unreachable-requires : goal.unreachable-requires
unreachable-requires g c =
    let none = no_row c.args.number _ _ _ c.self.invariant.rows (rw (c.as_slice.ensures.value, c.as_slice-2.ensures.value) at c.in-None.ensures) in
    let w : false ≡ true = sym (ap is_some none) ∙ rw (← c.self.view_is) at c.requires in absurd cc
