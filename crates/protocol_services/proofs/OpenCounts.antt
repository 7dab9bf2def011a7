-- The counts of the open items, before and after an open or a close.
use Rattle.std.proofs.Common.{◌≡◌, ℕ, ◌+◌, ◌≤◌, Bool, false, List, [], ◌∷◌, not, nat_eq, inl, inr, refl, ap, arith}
use Rattle.std.specs.List.{list_any, AllByRecursion}
use Rattle.std.proofs.lemmas.Bool.{cases_Bool}
use Rattle.guid_handles.proofs.SortedLists.{all_map, all_filter, all_mapped, all_push}
use Rattle.open_agents.specs.declared.items.OpenRecord.{OpenRecord}
use Rattle.open_agents.specs.OpenItems.{counted, is_equal_item, with_item, without_items}

-- counts that are so high at most
abbrev pub CountUpTo : ℕ → List OpenRecord → Type 0
CountUpTo n opens = AllByRecursion (λ o. o.count ≤ n) opens

pub one_higher : (n : ℕ) (opens : List OpenRecord) → CountUpTo n opens → CountUpTo (n + 1) opens
one_higher n opens h = all_map (λ o. o.count ≤ n) (λ o. o.count ≤ n + 1) (λ o l. omega (arith, l)) opens h

counted_up_to : (p : OpenRecord → Bool) (n : ℕ) (o : OpenRecord) → o.count ≤ n → (counted p o).count ≤ n + 1
counted_up_to p n o l = elim (cases_Bool (p o)) [
  | inl e ↦ rw e (omega (arith, l))
  | inr e ↦ rw e (omega (arith, l))
]

-- an open raises each count by 1 at most
pub opened_counts : (handle : ℕ) (guid : List ℕ) (agent controller a : ℕ) (opens : List OpenRecord) (n : ℕ) → CountUpTo n opens → CountUpTo (n + 1) (with_item handle guid agent controller a opens)
opened_counts handle guid agent controller a opens n h = elim (cases_Bool (list_any (is_equal_item handle guid agent controller a) opens)) [
  | inl e ↦ rw e (all_mapped (λ o. o.count ≤ n + 1) (λ o. o.count ≤ n) (counted (is_equal_item handle guid agent controller a)) (counted_up_to (is_equal_item handle guid agent controller a) n) opens h)
  | inr e ↦ rw e (elim (cases_Bool (nat_eq agent 0)) [
    | inl z ↦ rw z (one_higher n opens h)
    | inr z ↦ rw z (all_push (λ o. o.count ≤ n + 1) opens _ (one_higher n opens h) (omega arith))
  ])
]

-- a close raises none
pub closed_counts : (p : OpenRecord → Bool) (opens : List OpenRecord) (n : ℕ) → CountUpTo n opens → CountUpTo (n + 1) (without_items p opens)
closed_counts p opens n h = all_filter (λ o. o.count ≤ n + 1) (λ o. not (p o)) opens (one_higher n opens h)

-- without an item that passes, none goes
pub none_gone : (p : OpenRecord → Bool) (opens : List OpenRecord) → list_any p opens ≡ false → without_items p opens ≡ opens
none_gone p [] e = refl
none_gone p (o ∷ os) e = elim (cases_Bool (p o)) [
  | inl k ↦ let f = rw k at e in cc
  | inr k ↦ rw k (ap (λ r. o ∷ r) (none_gone p os (rw k at e)))
]
