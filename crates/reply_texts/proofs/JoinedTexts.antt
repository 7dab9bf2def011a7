-- Texts that are joined one after the other.
use Rattle.std.proofs.Common.{◌≡◌, ℕ, ◌++◌, ◌+◌, ◌<◌, List, [], ◌∷◌, map, length, take, codes, zero, suc, get_or, arith, ne_eqb, refl, ap, sym, ◌∙◌, append_assoc, append-nil}
use Rattle.std.specs.List.{flat_map}
use Rattle.std.proofs.lemmas.Grind.{flat_map-append}
use Rattle.std.proofs.lemmas.List.{take_more}
use Rattle.reply_texts.specs.ListTexts.{joined, separator_at}

-- what comes between some texts and one more
abbrev separator_after : {X : Type 0} → List X → List ℕ
separator_after [] = []
separator_after (x ∷ xs) = codes ","

joined_more : (xs : List (List ℕ)) (y : List ℕ) → joined (xs ++ y ∷ []) ≡ joined xs ++ (separator_after xs ++ y)
joined_more [] y = append-nil y
joined_more (x ∷ xs) y =
    let f : List ℕ → List ℕ = λ z. codes "," ++ z in
    ap (λ (t : List ℕ). x ++ t) (flat_map-append f xs (y ∷ []) ∙ ap (λ (t : List ℕ). flat_map f xs ++ t) (append-nil (f y))) ∙ sym (append_assoc x (flat_map f xs) (f y))

map_append : {X : Type 0} (f : X → List ℕ) (xs : List X) (y : X) → map f (xs ++ y ∷ []) ≡ map f xs ++ f y ∷ []
map_append f [] y = refl
map_append f (x ∷ xs) y = ap (λ (zs : List (List ℕ)). f x ∷ zs) (map_append f xs y)

same_separator : {X : Type 0} (f : X → List ℕ) (xs : List X) → separator_after (map f xs) ≡ separator_after xs
same_separator f [] = refl
same_separator f (x ∷ xs) = refl

joined_item : {X : Type 0} (f : X → List ℕ) (xs : List X) (y : X) → joined (map f (xs ++ y ∷ [])) ≡ joined (map f xs) ++ (separator_after xs ++ f y)
joined_item f xs y = ap joined (map_append f xs y) ∙ joined_more (map f xs) (f y) ∙ ap (λ (s : List ℕ). joined (map f xs) ++ (s ++ f y)) (same_separator f xs)

-- what comes before the item at an index, the items before it taken
separated : {X : Type 0} (xs : List X) (i : ℕ) → i < length xs → separator_after (take i xs) ≡ separator_at i
separated [] i low = absurd (omega (arith, low))
separated (x ∷ xs) zero low = refl
separated (x ∷ xs) (suc i) low = rw (ne_eqb (suc i) 0 (λ e. omega (arith, e))) refl

-- one item more in a row
pub one_more : {X : Type 0} (f : X → List ℕ) (xs : List X) (i : ℕ) (default : X) → i < length xs → joined (map f (take (i + 1) xs)) ≡ joined (map f (take i xs)) ++ (separator_at i ++ f (get_or xs i default))
one_more {X = X} f xs i default low =
    let x : X = get_or xs i default in
    ap (λ (ys : List X). joined (map f ys)) (take_more xs i default low) ∙ joined_item f (take i xs) x ∙ ap (λ (s : List ℕ). joined (map f (take i xs)) ++ (s ++ f x)) (separated xs i low)
