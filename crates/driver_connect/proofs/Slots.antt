-- What is left of a list from a place on, by what is at the place.
use Rattle.std.proofs.Common.{◌≡◌, ◌∷◌, [], ℕ, zero, suc, List, Some, None, drop, refl, ap}
use Rattle.std.specs.List.{slice_get}
use Rattle.std.proofs.lemmas.Option.{same_Some}

pub slot_next : {X : Type 0} (xs : List X) (k : ℕ) (x : X) → slice_get xs k ≡ Some x → drop k xs ≡ x ∷ drop (suc k) xs
slot_next [] zero x e = absurd cc
slot_next [] (suc k) x e = absurd cc
slot_next (y ∷ ys) zero x e = ap (λ z. z ∷ ys) (same_Some y x e)
slot_next (y ∷ ys) (suc k) x e = slot_next ys k x e

pub no_slot : {X : Type 0} (xs : List X) (k : ℕ) → slice_get xs k ≡ None → drop k xs ≡ drop (suc k) xs
no_slot [] zero e = refl
no_slot [] (suc k) e = refl
no_slot (y ∷ ys) zero e = absurd cc
no_slot (y ∷ ys) (suc k) e = no_slot ys k e
