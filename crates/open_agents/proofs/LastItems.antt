-- The item that was made last goes.
use Rattle.std.proofs.Math.ListN.{set}
use Rattle.std.proofs.Common.{◌≡◌, ℕ, zero, suc, ◌+◌, ◌-◌, ◌<◌, ◌≤◌, true, List, [], ◌∷◌, ◌++◌, drop, length, take, Option, Some, None, is_some, refl, sym, ap, ◌∙◌, arith, add-one, length-append}
use Rattle.std.proofs.lemmas.List.{length-take-le, take-append-drop, take-append-le}
use Rattle.std.proofs.Math.Seq.{take-append_seam}
use Rattle.open_agents.specs.declared.items.OpenRecord.{OpenRecord}
use Rattle.open_agents.specs.Blocks.{item_at, items_in}

last_one : (slots : List (Option OpenRecord)) (k : ℕ) → is_some (item_at slots k) ≡ true → items_in (drop (suc k) slots) ≡ [] → (x : OpenRecord) × (items_in slots ≡ items_in (set slots k None) ++ x ∷ [])
last_one [] k h e = absurd cc
last_one (None ∷ ss) zero h e = absurd cc
last_one (Some o ∷ ss) zero h e = let n : items_in ss ≡ [] = e in (o, rw n refl)
last_one (None ∷ ss) (suc k) h e = last_one ss k h e
last_one (Some o ∷ ss) (suc k) h e = let r = last_one ss k h e in (r.0, ap (λ os. o ∷ os) r.1)

all_but_last : {X : Type 0} (xs ys : List X) (x : X) → xs ≡ ys ++ x ∷ [] → ys ≡ take (length xs - 1) xs
all_but_last xs ys x e =
    let count : length xs - 1 ≡ length ys = omega (arith, ap length e ∙ length-append ys (x ∷ [])) in
    rw count (rw e (sym (take-append_seam ys (x ∷ []))))

-- the others stay
pub last_vacated : (slots : List (Option OpenRecord)) (k : ℕ) → is_some (item_at slots k) ≡ true → items_in (drop (k + 1) slots) ≡ [] → items_in (set slots k None) ≡ take (length (items_in slots) - 1) (items_in slots)
last_vacated slots k h e =
    let one = last_one slots k h (rw add-one at e) in
    all_but_last (items_in slots) (items_in (set slots k None)) one.0 one.1

after_set : (slots : List (Option OpenRecord)) (k : ℕ) → items_in (drop k (set slots k None)) ≡ items_in (drop (suc k) slots)
after_set [] zero = refl
after_set [] (suc k) = refl
after_set (s ∷ ss) zero = refl
after_set (s ∷ ss) (suc k) = after_set ss k

-- from its place on there is what lay after it
pub vacated_after : (slots : List (Option OpenRecord)) (k : ℕ) → items_in (drop k (set slots k None)) ≡ items_in (drop (k + 1) slots)
vacated_after slots k = rw add-one (after_set slots k)

-- its place is not after the end
pub vacated_bound : (slots : List (Option OpenRecord)) (k : ℕ) → is_some (item_at slots k) ≡ true → k ≤ length (set slots k None)
vacated_bound [] k h = absurd cc
vacated_bound (s ∷ ss) zero h = omega arith
vacated_bound (s ∷ ss) (suc k) h = omega (arith, vacated_bound ss k h)
