-- Changes of the open items that keep them proper.
use Rattle.std.proofs.Common.{◌≡◌, ℕ, ◌==◌, ◌&&◌, ◌||◌, not, Bool, true, false, List, [], ◌∷◌, Some, inl, inr, refl, sym, ap, ◌∙◌, subst}
use Rattle.std.specs.List.{find, AllByRecursion}
use Rattle.std.proofs.lemmas.Bool.{cases_Bool, and_parts, eq-eqb}
use Rattle.std.proofs.lemmas.Bool.Decides.{eqb_tells}
use Rattle.std.proofs.lemmas.Option.{same_Some}
use Rattle.guid_handles.specs.HandleTables.{HandleTable, is_live}
use Rattle.guid_handles.specs.HandleChanges.{is_dead, without_interface}
use Rattle.guid_handles.specs.Sorting.{Ascending}
use Rattle.guid_handles.proofs.GuidOrder.{same_guid-true}
use Rattle.guid_handles.proofs.SortedLists.{all_map, all_mapped, all_of, all_push, all_filter, all_filtered, any_none, ascending_filter, ascending_map, ascending_push}
use Rattle.guid_handles.specs.declared.records.Pair.{Pair}
use Rattle.open_agents.specs.declared.items.OpenRecord.{OpenRecord}
use Rattle.open_agents.specs.OpenItems.{counted, is_equal_item, is_exclusive, is_for_driver, is_open_on, manager_of, names, with_item, without_items}
use Rattle.open_agents.specs.OpenRule.{has_equal, has_holder, is_driver_item}
use Rattle.driver_connect.specs.Stopping.{has_pair, is_one_of, names_any, without_handles, without_opens}
use Rattle.driver_connect.proofs.Opened.{is_holder, none_any}
use Rattle.protocol_services.specs.ProperLists.{NamesLive, HoldApart, holds}
use Rattle.protocol_services.proofs.ProperTables.{live_filtered, not_dead, other_live}

-- ---- live handles that are named

names_handle : (o : OpenRecord) → names o.handle o ≡ true
names_handle o = rw (eq-eqb o.handle o.handle refl) refl

names_agent : (o : OpenRecord) → names o.agent o ≡ true
names_agent o = elim (cases_Bool (o.handle == o.agent)) [
  | inl e ↦ rw e refl
  | inr e ↦ rw e (rw (eq-eqb o.agent o.agent refl) refl)
]

names_controller : (o : OpenRecord) → names o.controller o ≡ true
names_controller o = elim (cases_Bool (o.handle == o.controller)) [
  | inl e ↦ rw e refl
  | inr e ↦ rw e (elim (cases_Bool (o.agent == o.controller)) [
    | inl f ↦ rw f refl
    | inr f ↦ rw f (rw (eq-eqb o.controller o.controller refl) refl)
  ])
]

-- an item names live handles of another table too, where those that it names stay live
pub named_there : (t u : HandleTable) (o : OpenRecord) → ((n : ℕ) → names n o ≡ true → is_live t n ≡ true → is_live u n ≡ true) → NamesLive t o → NamesLive u o
named_there t u o f h = record {
  handle = f o.handle (names_handle o) h.handle;
  agent = f o.agent (names_agent o) h.agent;
  controller = elim (cases_Bool (o.controller == 0)) [
    | inl z ↦ rw z refl
    | inr z ↦ rw z (rw (f o.controller (names_controller o) (not_dead t o.controller z h.controller)) refl)
  ];
}

pub all_named : (t u : HandleTable) (opens : List OpenRecord) → ((n : ℕ) → is_live t n ≡ true → is_live u n ≡ true) → AllByRecursion (NamesLive t) opens → AllByRecursion (NamesLive u) opens
all_named t u opens f h = all_map (NamesLive t) (NamesLive u) (λ o k. named_there t u o (λ n e l. f n l) k) opens h

-- ---- one item more, or one count

counted_named : (t : HandleTable) (p : OpenRecord → Bool) (o : OpenRecord) → NamesLive t o → NamesLive t (counted p o)
counted_named t p o h = elim (cases_Bool (p o)) [
  | inl e ↦ rw e (record { handle = h.handle; agent = h.agent; controller = h.controller })
  | inr e ↦ rw e h
]

pub with_item_named : (t : HandleTable) (n : ℕ) (guid : List ℕ) (agent controller a : ℕ) (opens : List OpenRecord) → is_live t n ≡ true → is_dead t agent ≡ false → is_dead t controller ≡ false
    → AllByRecursion (NamesLive t) opens → AllByRecursion (NamesLive t) (with_item n guid agent controller a opens)
with_item_named t n guid agent controller a opens live la lc h = elim (cases_Bool (has_equal opens n guid agent controller a)) [
  | inl e ↦ rw e (all_mapped (NamesLive t) (NamesLive t) (counted (is_equal_item n guid agent controller a)) (counted_named t (is_equal_item n guid agent controller a)) opens h)
  | inr e ↦ rw e (elim (cases_Bool (agent == 0)) [
    | inl z ↦ rw z h
    | inr z ↦ rw z (all_push (NamesLive t) opens _ h (record { handle = live; agent = not_dead t agent z la; controller = lc }))
  ])
]

counted_apart : (p : OpenRecord → Bool) (x y : OpenRecord) → HoldApart x y → HoldApart (counted p x) (counted p y)
counted_apart p x y h = elim (cases_Bool (p x)) [
  | inl e ↦ elim (cases_Bool (p y)) [
    | inl f ↦ rw e (rw f h)
    | inr f ↦ rw e (rw f h)
  ]
  | inr e ↦ elim (cases_Bool (p y)) [
    | inl f ↦ rw e (rw f h)
    | inr f ↦ rw e (rw f h)
  ]
]

apart_from : (n : ℕ) (guid : List ℕ) (new : OpenRecord) (opens : List OpenRecord) → new.handle ≡ n → new.guid ≡ guid → (holds new ≡ true → has_holder opens n guid ≡ false) → AllByRecursion (λ x. HoldApart x new) opens
apart_from n guid new opens a b h = elim (cases_Bool (holds new)) [
  | inl e ↦ all_map (λ x. is_holder n guid x ≡ false) (λ x. HoldApart x new) (λ x k l. rw a (rw b k)) opens (none_any (is_holder n guid) opens (h e))
  | inr e ↦ all_of (λ x. HoldApart x new) (λ x l. absurd (let k : false ≡ true = sym e ∙ l in cc)) opens
]

-- a new item that holds its interface comes where none holds it
pub with_item_apart : (n : ℕ) (guid : List ℕ) (agent controller a : ℕ) (opens : List OpenRecord)
    → (has_equal opens n guid agent controller a ≡ false → (is_for_driver a || is_exclusive a) ≡ true → has_holder opens n guid ≡ false)
    → Ascending HoldApart opens → Ascending HoldApart (with_item n guid agent controller a opens)
with_item_apart n guid agent controller a opens h s = elim (cases_Bool (has_equal opens n guid agent controller a)) [
  | inl e ↦ rw e (ascending_map HoldApart HoldApart (counted (is_equal_item n guid agent controller a)) (counted_apart (is_equal_item n guid agent controller a)) opens s)
  | inr e ↦ rw e (elim (cases_Bool (agent == 0)) [
    | inl z ↦ rw z s
    | inr z ↦ rw z (ascending_push HoldApart opens _ s (apart_from n guid (record { handle = n; guid = guid; agent = agent; controller = controller; attributes = a; count = 1 }) opens refl refl (h e)))
  ])
]

-- ---- handles that go

unnamed : (ns : List ℕ) (o : OpenRecord) (m : ℕ) → not (names_any ns o) ≡ true → names m o ≡ true → not (is_one_of ns m) ≡ true
unnamed [] o m k e = refl
unnamed (n ∷ ns) o m k e = elim (cases_Bool (names n o)) [
  | inl f ↦ absurd (let j = rw f at k in cc)
  | inr f ↦ elim (eqb_tells m n) [
    | inl t ↦ absurd (let g : names n o ≡ true = rw (← t.1) e in let j : false ≡ true = sym f ∙ g in cc)
    | inr g ↦ rw g.0 (unnamed ns o m (rw f at k) e)
  ]
]

pub stopped_named : (ns : List ℕ) (pairs : List Pair) (t : HandleTable) (opens : List OpenRecord) → AllByRecursion (NamesLive t) opens
    → AllByRecursion (NamesLive (without_handles ns t)) (without_opens ns pairs opens)
stopped_named ns pairs t opens h =
    all_filter (NamesLive (without_handles ns t)) (λ o. not (has_pair pairs (manager_of o))) (without_items (names_any ns) opens)
    (all_filtered (NamesLive (without_handles ns t)) (NamesLive t) (λ o. not (names_any ns o))
    (λ o k l. named_there t (without_handles ns t) o (λ m e live. live_filtered (λ i. not (is_one_of ns i)) t m live (unnamed ns o m k e)) l) opens h)

pub stopped_apart : (ns : List ℕ) (pairs : List Pair) (opens : List OpenRecord) → Ascending HoldApart opens → Ascending HoldApart (without_opens ns pairs opens)
stopped_apart ns pairs opens h =
    ascending_filter HoldApart (λ o. not (has_pair pairs (manager_of o))) (without_items (names_any ns) opens) (ascending_filter HoldApart (λ o. not (names_any ns o)) opens h)

-- ---- an interface that goes

pub kept_named : (n : ℕ) (guid : List ℕ) (t : HandleTable) (opens : List OpenRecord) → is_live (without_interface n guid t) n ≡ true → AllByRecursion (NamesLive t) opens → AllByRecursion (NamesLive (without_interface n guid t)) opens
kept_named n guid t opens live h =
    all_named t (without_interface n guid t) opens
    (λ m l. elim (eqb_tells m n) [
      | inl e ↦ rw e.1 live
      | inr f ↦ other_live n guid t m l f.0
    ]) h

pub left_named : (n : ℕ) (guid : List ℕ) (t : HandleTable) (opens : List OpenRecord) → AllByRecursion (NamesLive t) opens → AllByRecursion (NamesLive (without_interface n guid t)) (without_items (names n) opens)
left_named n guid t opens h =
    all_filtered (NamesLive (without_interface n guid t)) (NamesLive t) (λ o. not (names n o))
    (λ o k l. named_there t (without_interface n guid t) o
    (λ m e live. elim (eqb_tells m n) [
      | inl a ↦ absurd (let g : names n o ≡ true = rw (← a.1) e in let j = rw g at k in cc)
      | inr f ↦ other_live n guid t m live f.0
    ]) l) opens h

-- ---- the driver that holds an interface

open_at : (n : ℕ) (guid : List ℕ) (o : OpenRecord) → is_open_on n guid o ≡ true → (o.handle ≡ n) × (o.guid ≡ guid)
open_at n guid o h = elim (eqb_tells o.handle n) [
  | inl t ↦ (t.1, same_guid-true o.guid guid (rw t.0 at h))
  | inr f ↦ let e = rw f.0 at h in absurd cc
]

rivals : (n : ℕ) (guid : List ℕ) (x p : OpenRecord) → HoldApart x p → is_holder n guid p ≡ true → is_holder n guid x ≡ true → ⊥
rivals n guid x p h k l =
    let parts = and_parts (is_open_on n guid p) (holds p) k in
    let e = open_at n guid p parts.0 in
    let f : (is_open_on n guid x && holds x) ≡ false = rw e.1 at (rw e.0 at (h parts.1)) in
    let c : false ≡ true = sym f ∙ l in
    cc

driver_holds : (n : ℕ) (guid : List ℕ) (o : OpenRecord) → is_driver_item n guid o ≡ true → is_holder n guid o ≡ true
driver_holds n guid o h =
    let parts = and_parts (is_open_on n guid o) (o.attributes == 0x10) h in
    rw parts.0 (rw parts.1 refl)

found_with : {X : Type 0} (P : X → Type 0) (p : X → Bool) (xs : List X) (x : X) → AllByRecursion P xs → find p xs ≡ Some x → (p x ≡ true) × P x
found_with P p [] x a e = absurd cc
found_with {X = X} P p (y ∷ ys) x a e = elim (cases_Bool (p y)) [
  | inl k ↦ subst (λ (z : X). (p z ≡ true) × P z) (same_Some y x (rw k at e)) (k, a.0)
  | inr k ↦ found_with P p ys x a.1 (rw k at e)
]

-- where a driver has an interface open, no other pair holds it
pub one_holder : (n : ℕ) (guid : List ℕ) (opens : List OpenRecord) (o : OpenRecord) → Ascending HoldApart opens → find (is_driver_item n guid) opens ≡ Some o
    → AllByRecursion (λ p. is_holder n guid p ≡ true → manager_of p ≡ manager_of o) opens
one_holder n guid [] o h e = tt
one_holder n guid (x ∷ xs) o h e = elim (cases_Bool (is_driver_item n guid x)) [
  | inl k ↦ (
    λ l. ap manager_of (same_Some x o (rw k at e)),
    all_map (HoldApart x) (λ p. is_holder n guid p ≡ true → manager_of p ≡ manager_of o) (λ p r l. absurd (rivals n guid x p r l (driver_holds n guid x k))) xs h.0,
  )
  | inr k ↦
      let rest : find (is_driver_item n guid) xs ≡ Some o = rw k at e in
      let found = found_with (HoldApart x) (is_driver_item n guid) xs o h.0 rest in
      (λ l. absurd (rivals n guid x o found.1 (driver_holds n guid o found.0) l), one_holder n guid xs o h.1 rest)
]

-- once it is stopped, nobody holds it
pub none_holds : (n : ℕ) (guid : List ℕ) (ns : List ℕ) (set : List Pair) (q : Pair) (opens : List OpenRecord) → has_pair set q ≡ true
    → AllByRecursion (λ p. is_holder n guid p ≡ true → manager_of p ≡ q) opens → has_holder (without_opens ns set opens) n guid ≡ false
none_holds n guid ns set q opens h all =
    any_none (is_holder n guid) (without_opens ns set opens)
    (all_filtered (λ o. is_holder n guid o ≡ false) (λ p. is_holder n guid p ≡ true → manager_of p ≡ q) (λ o. not (has_pair set (manager_of o)))
    (λ o k f. elim (cases_Bool (is_holder n guid o)) [
      | inl e ↦ absurd (let g : has_pair set (manager_of o) ≡ true = rw (f e) h in let j = rw g at k in cc)
      | inr e ↦ e
    ])
    (without_items (names_any ns) opens) (all_filter (λ p. is_holder n guid p ≡ true → manager_of p ≡ q) (λ o. not (names_any ns o)) opens all))
