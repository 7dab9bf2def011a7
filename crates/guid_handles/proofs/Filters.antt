-- Filters of filters, and of changed lists.
use Rattle.std.proofs.Common.{◌≡◌, Bool, true, List, [], ◌∷◌, ◌++◌, map, inl, inr, refl, ap}
use Rattle.std.specs.List.{filter, AllByRecursion}
use Rattle.std.proofs.lemmas.Bool.{cases_Bool}

pub filter_swap : {X : Type 0} (p q : X → Bool) (xs : List X) → filter p (filter q xs) ≡ filter q (filter p xs)
filter_swap p q [] = refl
filter_swap p q (x ∷ xs) = elim (cases_Bool (q x)) [
  | inl e ↦ elim (cases_Bool (p x)) [
    | inl k ↦ rw e (rw k (rw e (ap (λ r. x ∷ r) (filter_swap p q xs))))
    | inr k ↦ rw e (rw k (filter_swap p q xs))
  ]
  | inr e ↦ elim (cases_Bool (p x)) [
    | inl k ↦ rw e (rw k (rw e (filter_swap p q xs)))
    | inr k ↦ rw e (rw k (filter_swap p q xs))
  ]
]

-- a filter that passes all that another passes
pub filter_inside : {X : Type 0} (p q : X → Bool) → ((x : X) → q x ≡ true → p x ≡ true) → (xs : List X) → filter q (filter p xs) ≡ filter q xs
filter_inside p q h [] = refl
filter_inside p q h (x ∷ xs) = elim (cases_Bool (q x)) [
  | inl e ↦ rw (h x e) (rw e (ap (λ r. x ∷ r) (filter_inside p q h xs)))
  | inr e ↦ elim (cases_Bool (p x)) [
    | inl k ↦ rw k (rw e (filter_inside p q h xs))
    | inr k ↦ rw k (rw e (filter_inside p q h xs))
  ]
]

pub filter_append : {X : Type 0} (p : X → Bool) (xs ys : List X) → filter p (xs ++ ys) ≡ filter p xs ++ filter p ys
filter_append p [] ys = refl
filter_append p (x ∷ xs) ys = elim (cases_Bool (p x)) [
  | inl e ↦ rw e (ap (λ r. x ∷ r) (filter_append p xs ys))
  | inr e ↦ rw e (filter_append p xs ys)
]

-- a change that the test does not see
pub filter_changed : {X : Type 0} (f : X → X) (q : X → Bool) → ((x : X) → q (f x) ≡ q x) → (xs : List X) → filter q (map f xs) ≡ map f (filter q xs)
filter_changed f q h [] = refl
filter_changed f q h (x ∷ xs) = elim (cases_Bool (q x)) [
  | inl e ↦ rw (h x) (rw e (ap (λ r. f x ∷ r) (filter_changed f q h xs)))
  | inr e ↦ rw (h x) (rw e (filter_changed f q h xs))
]

pub passed : {X : Type 0} (p : X → Bool) (xs : List X) → AllByRecursion (λ x. p x ≡ true) (filter p xs)
passed p [] = tt
passed p (x ∷ xs) = elim (cases_Bool (p x)) [
  | inl e ↦ rw e (e, passed p xs)
  | inr e ↦ rw e (passed p xs)
]
