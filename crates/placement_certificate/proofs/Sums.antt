-- Sums over a list.
use Rattle.std.proofs.Common.{◌≡◌, ℕ, ◌+◌, List, [], ◌∷◌, map, sum_by, refl, sym, ap, ◌∙◌, arith}
use Rattle.std.specs.List.{AllByRecursion}
use Rattle.std.proofs.lemmas.List.Sums.{sum_by-cons}

pub sum_by-map : {X Y : Type 0} (f : Y → ℕ) (g : X → Y) (xs : List X) → sum_by f (map g xs) ≡ sum_by (λ x. f (g x)) xs
sum_by-map f g [] = refl
sum_by-map f g (x ∷ xs) = sum_by-cons f (g x) (map g xs) ∙ ap (λ n. f (g x) + n) (sum_by-map f g xs) ∙ sym (sum_by-cons (λ y. f (g y)) x xs)

pub sum_by-add : {X : Type 0} (f g : X → ℕ) (xs : List X) → sum_by (λ x. f x + g x) xs ≡ sum_by f xs + sum_by g xs
sum_by-add f g [] = refl
sum_by-add f g (x ∷ xs) = omega (arith, sum_by-cons (λ y. f y + g y) x xs, sum_by-cons f x xs, sum_by-cons g x xs, sum_by-add f g xs)

-- terms that are equal for each element
pub sum_by-equal : {X : Type 0} (P : X → Type 0) (f g : X → ℕ) → ((x : X) → P x → f x ≡ g x) → (xs : List X) → AllByRecursion P xs → sum_by f xs ≡ sum_by g xs
sum_by-equal P f g same [] a = refl
sum_by-equal P f g same (x ∷ xs) a = omega (arith, sum_by-cons f x xs, sum_by-cons g x xs, same x a.0, sum_by-equal P f g same xs a.1)
