-- Members of a list.
use Rattle.std.proofs.Common.{◌≡◌, ◌⊎◌, zero, suc, List, [], ◌∷◌, ◌++◌, Contains, inl, inr, refl, sym, subst, arith}
use Rattle.std.specs.List.{AllByRecursion}

pub member_first : {X : Type 0} (x : X) (xs : List X) → Contains (x ∷ xs) x
member_first x xs = (0, omega arith, refl)

pub member_later : {X : Type 0} (y : X) (xs : List X) (x : X) → Contains xs x → Contains (y ∷ xs) x
member_later y xs x h = (suc h.0, omega (arith, h.1), h.2)

pub member_behind : {X : Type 0} (front : List X) (x : X) (rest : List X) → Contains (front ++ x ∷ rest) x
member_behind [] x rest = member_first x rest
member_behind (y ∷ front) x rest = member_later y (front ++ x ∷ rest) x (member_behind front x rest)

pub member_cases : {X : Type 0} (y : X) (xs : List X) (x : X) → Contains (y ∷ xs) x → (y ≡ x) ⊎ Contains xs x
member_cases y xs x (zero, l, e) = inl e
member_cases y xs x (suc k, l, e) = inr (k, omega (arith, l), e)

pub member_none : {X : Type 0} (x : X) → ¬ Contains [] x
member_none x h = omega (arith, h.1)

-- what holds of all holds of a member
pub member_all : {X : Type 0} (P : X → Type 0) (xs : List X) (x : X) → AllByRecursion P xs → Contains xs x → P x
member_all P [] x a h = absurd (member_none x h)
member_all P (y ∷ xs) x a h = elim (member_cases y xs x h) [ inl e ↦ subst P e a.0 | inr t ↦ member_all P xs x a.1 t ]

pub all_implied : {X : Type 0} (P Q : X → Type 0) → ((x : X) → P x → Q x) → (xs : List X) → AllByRecursion P xs → AllByRecursion Q xs
all_implied P Q f [] a = tt
all_implied P Q f (x ∷ xs) a = (f x a.0, all_implied P Q f xs a.1)

pub all_append : {X : Type 0} (P : X → Type 0) (xs ys : List X) → AllByRecursion P xs → AllByRecursion P ys → AllByRecursion P (xs ++ ys)
all_append P [] ys a b = b
all_append P (x ∷ xs) ys a b = (a.0, all_append P xs ys a.1 b)

pub all_append_left : {X : Type 0} (P : X → Type 0) (xs ys : List X) → AllByRecursion P (xs ++ ys) → AllByRecursion P xs
all_append_left P [] ys a = tt
all_append_left P (x ∷ xs) ys a = (a.0, all_append_left P xs ys a.1)

pub all_append_right : {X : Type 0} (P : X → Type 0) (xs ys : List X) → AllByRecursion P (xs ++ ys) → AllByRecursion P ys
all_append_right P [] ys a = a
all_append_right P (x ∷ xs) ys a = all_append_right P xs ys a.1

pub member_left : {X : Type 0} (xs ys : List X) (x : X) → Contains xs x → Contains (xs ++ ys) x
member_left [] ys x h = absurd (member_none x h)
member_left (y ∷ xs) ys x h = elim (member_cases y xs x h) [ inl e ↦ subst (λ z. Contains (z ∷ (xs ++ ys)) x) (sym e) (member_first x (xs ++ ys)) | inr t ↦ member_later y (xs ++ ys) x (member_left xs ys x t) ]

pub member_right : {X : Type 0} (xs ys : List X) (x : X) → Contains ys x → Contains (xs ++ ys) x
member_right [] ys x h = h
member_right (y ∷ xs) ys x h = member_later y (xs ++ ys) x (member_right xs ys x h)
