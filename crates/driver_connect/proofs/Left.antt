-- What is left of handles, interfaces and items once some handles go.
use Rattle.std.proofs.Common.{◌≡◌, ℕ, ◌==◌, not, Bool, true, false, List, [], ◌∷◌, inl, inr, refl, sym, ap, ◌∙◌}
use Rattle.std.specs.List.{filter, list_any}
use Rattle.std.proofs.lemmas.Bool.{cases_Bool}
use Rattle.std.proofs.lemmas.Bool.Decides.{eqb_tells}
use Rattle.guid_handles.specs.HandleTables.{HandleTable, has_number, is_on}
use Rattle.guid_handles.proofs.Filters.{filter_inside}
use Rattle.guid_handles.specs.declared.records.Pair.{Pair}
use Rattle.open_agents.specs.declared.items.OpenRecord.{OpenRecord}
use Rattle.open_agents.specs.OpenItems.{names, manager_of, without_items}
use Rattle.driver_connect.specs.Stopping.{has_pair, is_one_of, names_any, without_handles, without_opens}

-- a filter takes out all that another looks for
gone : {X : Type 0} (q p : X → Bool) → ((x : X) → q x ≡ true → p x ≡ false) → (xs : List X) → filter q (filter p xs) ≡ []
gone q p h [] = refl
gone q p h (x ∷ xs) = elim (cases_Bool (q x)) [
  | inl e ↦ rw (h x e) (gone q p h xs)
  | inr e ↦ elim (cases_Bool (p x)) [
    | inl k ↦ rw k (rw e (gone q p h xs))
    | inr k ↦ rw k (gone q p h xs)
  ]
]

any_gone : {X : Type 0} (q p : X → Bool) → ((x : X) → q x ≡ true → p x ≡ false) → (xs : List X) → list_any q (filter p xs) ≡ false
any_gone q p h [] = refl
any_gone q p h (x ∷ xs) = elim (cases_Bool (q x)) [
  | inl e ↦ rw (h x e) (any_gone q p h xs)
  | inr e ↦ elim (cases_Bool (p x)) [
    | inl k ↦ rw k (rw e (any_gone q p h xs))
    | inr k ↦ rw k (any_gone q p h xs)
  ]
]

any_filtered : {X : Type 0} (q p : X → Bool) (xs : List X) → list_any q xs ≡ false → list_any q (filter p xs) ≡ false
any_filtered q p [] h = refl
any_filtered q p (x ∷ xs) h = elim (cases_Bool (q x)) [
  | inl e ↦ let k = rw e at h in cc
  | inr e ↦ elim (cases_Bool (p x)) [
    | inl k ↦ rw k (rw e (any_filtered q p xs (rw e at h)))
    | inr k ↦ rw k (any_filtered q p xs (rw e at h))
  ]
]

same_number : (ns : List ℕ) (m n : ℕ) (b : Bool) → is_one_of ns n ≡ b → (m == n) ≡ true → is_one_of ns m ≡ b
same_number ns m n b h e = elim (eqb_tells m n) [
  | inl t ↦ rw t.1 h
  | inr f ↦ absurd (let k : false ≡ true = sym f.0 ∙ e in cc)
]

named_by_one : (ns : List ℕ) (n : ℕ) (o : OpenRecord) → is_one_of ns n ≡ true → names n o ≡ true → names_any ns o ≡ true
named_by_one [] n o h k = cc
named_by_one (m ∷ ms) n o h k = elim (eqb_tells n m) [
  | inl t ↦ let e : names m o ≡ true = rw (← t.1) k in rw e refl
  | inr f ↦
      let e = named_by_one ms n o (rw f.0 at h) k in
      elim (cases_Bool (names m o)) [
        | inl g ↦ rw g refl
        | inr g ↦ rw g e
      ]
]

pub handles_gone : (ns : List ℕ) (pairs : List Pair) (t : HandleTable) (opens : List OpenRecord) (n : ℕ) → is_one_of ns n ≡ true
    → (filter (has_number n) (without_handles ns t).handles ≡ []) × (filter (is_on n) (without_handles ns t).interfaces ≡ []) × (list_any (names n) (without_opens ns pairs opens) ≡ false)
handles_gone ns pairs t opens n h = (
  gone (has_number n) (λ l. not (is_one_of ns l.number)) (λ l e. ap not (same_number ns l.number n true h e)) t.handles,
  gone (is_on n) (λ i. not (is_one_of ns i.handle)) (λ i e. ap not (same_number ns i.handle n true h e)) t.interfaces,
  any_filtered (names n) (λ o. not (has_pair pairs (manager_of o))) (without_items (names_any ns) opens) (any_gone (names n) (λ o. not (names_any ns o)) (λ o e. ap not (named_by_one ns n o h e)) opens),
)

pub others_stay : (ns : List ℕ) (t : HandleTable) (n : ℕ) → is_one_of ns n ≡ false
    → (filter (has_number n) (without_handles ns t).handles ≡ filter (has_number n) t.handles) × (filter (is_on n) (without_handles ns t).interfaces ≡ filter (is_on n) t.interfaces)
others_stay ns t n h = (
  filter_inside (λ l. not (is_one_of ns l.number)) (has_number n) (λ l e. ap not (same_number ns l.number n false h e)) t.handles,
  filter_inside (λ i. not (is_one_of ns i.handle)) (is_on n) (λ i e. ap not (same_number ns i.handle n false h e)) t.interfaces,
)
