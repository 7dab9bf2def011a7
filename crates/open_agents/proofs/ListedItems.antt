-- The items of an interface at the places from one on, and items written over a buffer.
use Rattle.std.proofs.Common.{◌≡◌, ℕ, zero, suc, ◌+◌, ◌<◌, ◌≤◌, List, [], ◌∷◌, ◌++◌, length, take, drop, set, get_or, Option, Some, None, inl, inr, refl, sym, ap, add-one, drop-cons, arith}
use Rattle.std.proofs.lemmas.Bool.{cases_Bool}
use Rattle.guid_handles.specs.HandleTables.{written_over}
use Rattle.open_agents.specs.declared.items.OpenRecord.{OpenRecord}
use Rattle.open_agents.specs.OpenItems.{is_open_on, items_on}
use Rattle.open_agents.specs.Blocks.{item_at, items_at, with_first}

pub next_there : (slots : List (Option OpenRecord)) (places : List ℕ) (i : ℕ) → i < length places → items_at slots (drop i places) ≡ with_first (item_at slots (get_or places i 0)) (items_at slots (drop (i + 1) places))
next_there slots places i l = rw (add-one, drop-cons places i 0) refl

-- an interface has at most as many items as there are places
pub few_items : (slots : List (Option OpenRecord)) (places : List ℕ) (n : ℕ) (guid : List ℕ) → length (items_on (items_at slots places) n guid) ≤ length places
few_items slots [] n guid = omega arith
few_items slots (k ∷ ks) n guid = few_first (item_at slots k) (few_items slots ks n guid)
  where
    few_first : (s : Option OpenRecord) → length (items_on (items_at slots ks) n guid) ≤ length ks → length (items_on (with_first s (items_at slots ks)) n guid) ≤ length (k ∷ ks)
    few_first None h = omega (arith, h)
    few_first (Some o) h = elim (cases_Bool (is_open_on n guid o)) [
      | inl e ↦ rw e (omega (arith, h))
      | inr e ↦ rw e (omega (arith, h))
    ]

-- a list with an item in it is not empty
pub not_empty : {X : Type 0} (xs : List X) (y : X) (ys : List X) → xs ++ y ∷ ys ≡ [] → ⊥
not_empty [] y ys h = cc
not_empty (x ∷ xs) y ys h = cc

nothing_over : {X : Type 0} (xs : List X) → written_over xs [] ≡ []
nothing_over [] = refl
nothing_over (x ∷ xs) = refl

written_next' : {X : Type 0} (y : X) (ys : List X) (count : ℕ) (out : List X) → take count out ++ written_over (y ∷ ys) (drop count out) ≡ take (suc count) (set out count y) ++ written_over ys (drop (suc count) (set out count y))
written_next' y ys zero [] = sym (nothing_over ys)
written_next' y ys (suc count) [] = sym (nothing_over ys)
written_next' y ys zero (o ∷ out) = refl
written_next' y ys (suc count) (o ∷ out) = ap (λ rest. o ∷ rest) (written_next' y ys count out)

-- the next item is written after those before it
pub written_next : {X : Type 0} (y : X) (ys : List X) (count : ℕ) (out : List X) → take count out ++ written_over (y ∷ ys) (drop count out) ≡ take (count + 1) (set out count y) ++ written_over ys (drop (count + 1) (set out count y))
written_next y ys count out = rw add-one (written_next' y ys count out)
