-- Items that pass a test go, from the last one down.
use Rattle.std.proofs.Math.ListN.{set}
use Rattle.std.proofs.Common.{◌≡◌, ℕ, zero, suc, ◌+◌, ◌≤◌, ◌||◌, Bool, true, false, List, [], ◌∷◌, drop, length, Option, Some, None, is_some, inl, inr, refl, sym, ap, ◌∙◌, arith, add-one, ◌⊎◌}
use Rattle.std.specs.List.{filter, list_any, remove, slice_get}
use Rattle.std.proofs.lemmas.List.Edits.{length-remove}
use Rattle.guid_handles.proofs.SortedLists.{any_found, find_filter}
use Rattle.guid_handles.proofs.PlaceLists.{place_gone, there_below}
use Rattle.open_agents.specs.declared.items.OpenRecord.{OpenRecord}
use Rattle.open_agents.specs.declared.near.Found.{Found}
use Rattle.open_agents.specs.Blocks.{FindsLast, NoneFrom, item_at, items_at, items_in, passes, places_from, with_first}
use Rattle.open_agents.proofs.Asked.{no_part}
use Rattle.open_agents.proofs.Placed.{emptied, from_ascends, held_any, placed_items}

-- ---- the places near a handle

-- once an item is gone, its place is the one that is missing
places_left : (q : OpenRecord → Bool) (slots : List (Option OpenRecord)) (k at : ℕ) → slice_get (places_from 0 q slots) at ≡ Some k → places_from 0 q (set slots k None) ≡ remove (places_from 0 q slots) at
places_left q slots k at e = sym (place_gone (places_from 0 q slots) at k (from_ascends q slots 0) e ∙ emptied q slots k)

pub index_bound : (q : OpenRecord → Bool) (slots : List (Option OpenRecord)) (k at : ℕ) → slice_get (places_from 0 q slots) at ≡ Some k → at ≤ length (places_from 0 q (set slots k None))
index_bound q slots k at e =
    let below = there_below (places_from 0 q slots) at k e in
    rw (places_left q slots k at e) (omega (arith, length-remove (places_from 0 q slots) at below, below))

drop_removed : {X : Type 0} (xs : List X) (at : ℕ) → drop at (remove xs at) ≡ drop (suc at) xs
drop_removed [] zero = refl
drop_removed [] (suc at) = refl
drop_removed (x ∷ xs) zero = refl
drop_removed (x ∷ xs) (suc at) = drop_removed xs at

-- ---- what is at the places after

first_any : (p : OpenRecord → Bool) (s : Option OpenRecord) (os : List OpenRecord) → list_any p (with_first s os) ≡ (passes p s || list_any p os)
first_any p None os = refl
first_any p (Some o) os = refl

vacated_at : (slots : List (Option OpenRecord)) (k j : ℕ) → (item_at (set slots k None) j ≡ None) ⊎ (item_at (set slots k None) j ≡ item_at slots j)
vacated_at [] zero j = inr refl
vacated_at [] (suc k) j = inr refl
vacated_at (s ∷ ss) zero zero = inl refl
vacated_at (s ∷ ss) zero (suc j) = inr refl
vacated_at (s ∷ ss) (suc k) zero = inr refl
vacated_at (s ∷ ss) (suc k) (suc j) = vacated_at ss k j

none_vacated : (p : OpenRecord → Bool) (slots : List (Option OpenRecord)) (k : ℕ) (places : List ℕ) → list_any p (items_at slots places) ≡ false → list_any p (items_at (set slots k None) places) ≡ false
none_vacated p slots k [] h = refl
none_vacated p slots k (j ∷ js) h =
    let parts = no_part (passes p (item_at slots j)) (list_any p (items_at slots js)) (sym (first_any p (item_at slots j) (items_at slots js)) ∙ h) in
    let rest = none_vacated p slots k js parts.1 in
    elim (vacated_at slots k j) [
      | inl e ↦ rw e rest
      | inr e ↦ rw e (first_any p (item_at slots j) (items_at (set slots k None) js) ∙ rw (parts.0, rest) refl)
    ]

-- once the last item that passes a test is gone, none from its index on does
pub none_from : (p q : OpenRecord → Bool) (slots : List (Option OpenRecord)) (k at : ℕ) → slice_get (places_from 0 q slots) at ≡ Some k → NoneFrom p slots (places_from 0 q slots) (at + 1)
    → NoneFrom p (set slots k None) (places_from 0 q (set slots k None)) at
none_from p q slots k at e h =
    rw (places_left q slots k at e) (rw (drop_removed (places_from 0 q slots) at) (none_vacated p slots k (drop (suc at) (places_from 0 q slots)) (rw add-one at h)))

-- ---- all items

-- what is found near a handle where all items that pass a test are
pub finds_any : (p q : OpenRecord → Bool) (slots : List (Option OpenRecord)) (found : Option Found) → ((o : OpenRecord) → p o ≡ true → q o ≡ true) → FindsLast p slots (places_from 0 q slots) found → is_some found ≡ list_any p (items_in slots)
finds_any p q slots (Some f) inside h = sym (held_any p slots f.place h.0)
finds_any p q slots None inside h =
    sym h
    ∙ ap (list_any p) (placed_items q slots slots 0 (λ k. ap (item_at slots) (omega arith)))
    ∙ sym (any_found p (filter q (items_in slots))) ∙ ap is_some (find_filter p q true inside (items_in slots)) ∙ any_found p (items_in slots)
