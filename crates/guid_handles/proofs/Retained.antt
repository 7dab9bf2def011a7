-- What `retain` leaves.
use Rattle.std.proofs.Common.{◌≡◌, ◌∙◌, refl, subst, Bool, List, [], ◌∷◌}
use Rattle.std.specs.List.{filter}
use Rattle.std.specs.List.Retain.{RetainsInTurn}

-- where each call answers a test and changes nothing, the items that pass the test are left
pub filter_retained : {X F : Type 0} (R : F → X → Bool → F → X → Type 0) (test : X → Bool) (f : F)
    → ((x : X) (b : Bool) (g : F) (y : X) → R f x b g y → (b ≡ test x) × (g ≡ f) × (y ≡ x))
    → (xs ys : List X) → RetainsInTurn R f xs ys → ys ≡ filter test xs
filter_retained R test f says [] ys h = h
filter_retained R test f says (x ∷ xs) ys (b, g, y, called, zs, later, is) =
    let said = says x b g y called in
    let rest = filter_retained R test f says xs zs (subst (λ s. RetainsInTurn R s xs zs) said.1 later) in
    is ∙ rw (said.0, said.2, rest) refl
