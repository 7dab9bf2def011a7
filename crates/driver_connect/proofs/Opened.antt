-- Items of BY_DRIVER on interfaces that are not held.
use Rattle.std.proofs.Common.{◌≡◌, ℕ, ◌+◌, ◌<◌, ◌==◌, ◌&&◌, ◌||◌, Bool, false, List, [], ◌∷◌, length, drop, get_or, inl, inr, refl, ◌∙◌}
use Rattle.std.specs.List.{list_any, AllByRecursion}
use Rattle.std.proofs.lemmas.Bool.{cases_Bool}
use Rattle.guid_handles.specs.HandleTables.{same_guid}
use Rattle.guid_handles.proofs.GuidOrder.{and_false}
use Rattle.guid_handles.proofs.SortedLists.{all_map, all_both, any_none, drop_next}
use Rattle.open_agents.specs.declared.items.OpenRecord.{OpenRecord}
use Rattle.open_agents.specs.OpenItems.{is_open_on, is_equal_item, is_for_driver, is_exclusive, with_item}
use Rattle.open_agents.specs.OpenRule.{has_holder}
use Rattle.driver_connect.specs.Starting.{has_guid, has_twice, with_driver_items}
use Rattle.driver_connect.proofs.Filters.{any_more}

-- an item that holds an interface
abbrev pub is_holder : ℕ → List ℕ → OpenRecord → Bool
is_holder n guid o = is_open_on n guid o && (is_for_driver o.attributes || is_exclusive o.attributes)

pub none_any : {X : Type 0} (p : X → Bool) (xs : List X) → list_any p xs ≡ false → AllByRecursion (λ x. p x ≡ false) xs
none_any p [] h = tt
none_any p (x ∷ xs) h = elim (cases_Bool (p x)) [
  | inl e ↦ let n = rw e at h in cc
  | inr e ↦ (e, none_any p xs (rw e at h))
]

not_equal : (n : ℕ) (guid : List ℕ) (agent : ℕ) (o : OpenRecord) → is_holder n guid o ≡ false → is_equal_item n guid agent n 0x10 o ≡ false
not_equal n guid agent o h = elim (cases_Bool (is_open_on n guid o)) [
  | inl e ↦ elim (cases_Bool (o.attributes == 0x10)) [
    | inl k ↦ let m = rw k at (rw e at h) in cc
    | inr k ↦ elim (cases_Bool ((o.agent == agent) && (o.controller == n))) [
      | inl p ↦ rw e (rw p (rw k refl))
      | inr p ↦ rw e (rw p refl)
    ]
  ]
  | inr e ↦ rw e refl
]

pub none_equal : (n : ℕ) (guid : List ℕ) (agent : ℕ) (opens : List OpenRecord) → has_holder opens n guid ≡ false → AllByRecursion (λ o. is_equal_item n guid agent n 0x10 o ≡ false) opens
none_equal n guid agent opens h = all_map (λ o. is_holder n guid o ≡ false) (λ o. is_equal_item n guid agent n 0x10 o ≡ false) (not_equal n guid agent) opens (none_any (is_holder n guid) opens h)

-- an item on one interface holds no other
other_held : (n : ℕ) (guid other : List ℕ) (agent : ℕ) (opens : List OpenRecord) → has_holder opens n guid ≡ false → same_guid guid other ≡ false → has_holder opens n other ≡ false
    → has_holder (with_item n guid agent n 0x10 opens) n other ≡ false
other_held n guid other agent opens h d k =
    let e : list_any (is_equal_item n guid agent n 0x10) opens ≡ false = any_none (is_equal_item n guid agent n 0x10) opens (none_equal n guid agent opens h) in
    elim (cases_Bool (agent == 0)) [
      | inl z ↦ rw e (rw z k)
      | inr z ↦ rw e (rw z (any_more (is_holder n other) opens _ ∙ rw k (rw d (rw (and_false (n == n)) refl))))
    ]

-- what is known of the GUIDs that are still to be opened
pub record AreToOpen (n : ℕ) (opens : List OpenRecord) (guids : List (List ℕ)) : Type 0 where
  pub free : AllByRecursion (λ guid. has_holder opens n guid ≡ false) guids
  pub once : has_twice guids ≡ false

-- the first of them was opened
pub next_opened : (n : ℕ) (opens : List OpenRecord) (guid : List ℕ) (guids : List (List ℕ)) (agent : ℕ) → AreToOpen n opens (guid ∷ guids) → AreToOpen n (with_item n guid agent n 0x10 opens) guids
next_opened n opens guid guids agent h = elim (cases_Bool (has_guid guids guid)) [
  | inl e ↦ absurd (let k = rw e at h.once in cc)
  | inr e ↦ record {
    free = all_both (λ g. same_guid guid g ≡ false) (λ g. has_holder opens n g ≡ false) (λ g. has_holder (with_item n guid agent n 0x10 opens) n g ≡ false)
        (λ g d k. other_held n guid g agent opens h.free.0 d k) guids (none_any (same_guid guid) guids e) h.free.1;
    once = rw e at h.once;
  }
]

pub opened_more : (n : ℕ) (opens : List OpenRecord) (guids : List (List ℕ)) (k : ℕ) (guid : List ℕ) (agent : ℕ) → k < length guids → guid ≡ get_or guids k guid → AreToOpen n opens (drop k guids)
    → AreToOpen n (with_item n guid agent n 0x10 opens) (drop (k + 1) guids)
opened_more n opens guids k guid agent l e h = next_opened n opens guid (drop (k + 1) guids) agent (rw (drop_next guids k guid l e) at h)

pub first_free : (n : ℕ) (opens : List OpenRecord) (guids : List (List ℕ)) (k : ℕ) (guid : List ℕ) → k < length guids → guid ≡ get_or guids k guid → AreToOpen n opens (drop k guids)
    → has_holder opens n guid ≡ false
first_free n opens guids k guid l e h = let f : AreToOpen n opens (guid ∷ drop (k + 1) guids) = rw (drop_next guids k guid l e) at h in f.free.0

pub items_more : (n : ℕ) (opens : List OpenRecord) (guids : List (List ℕ)) (k : ℕ) (guid : List ℕ) (agent : ℕ) (whole : List OpenRecord) → k < length guids → guid ≡ get_or guids k guid
    → with_driver_items n agent (drop k guids) opens ≡ whole → with_driver_items n agent (drop (k + 1) guids) (with_item n guid agent n 0x10 opens) ≡ whole
items_more n opens guids k guid agent whole l e h = rw (drop_next guids k guid l e) at h
