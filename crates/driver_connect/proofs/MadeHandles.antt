-- The handles that some pairs made, by the controllers of these, and the managers of such handles.
use Rattle.std.proofs.Common.{◌≡◌, ℕ, zero, suc, length, drop, ◌<◌, ◌≤◌, ◌==◌, ◌&&◌, ◌||◌, Bool, true, false, List, [], ◌∷◌, map, Option, Some, None, inl, inr, refl, sym, ap, ◌∙◌, arith}
use Rattle.std.specs.List.{find, AllByRecursion}
use Rattle.std.specs.Option.{option_and_then}
use Rattle.std.proofs.lemmas.Bool.Decides.{eqb_tells}
use Rattle.std.proofs.lemmas.Bool.{cases_Bool, ne_eqb, eq-eqb}
use Rattle.guid_handles.specs.declared.records.LiveHandle.{LiveHandle}
use Rattle.guid_handles.specs.declared.records.Pair.{Pair}
use Rattle.guid_handles.specs.HandleTables.{HandleTable, has_number, maker_of, numbers}
use Rattle.guid_handles.specs.HandleChanges.{IsHandleTable}
use Rattle.guid_handles.specs.MadeOn.{is_made_on, is_of_controller, made_on, numbers_made_on}
use Rattle.guid_handles.specs.Places.{has_place}
use Rattle.guid_handles.specs.Sorting.{Ascending}
use Rattle.guid_handles.proofs.SortedLists.{all_filter, all_map, all_of, ascending_filter, filter_same}
use Rattle.guid_handles.proofs.PlaceLists.{any_kept, same_places}
use Rattle.open_agents.specs.declared.items.OpenRecord.{OpenRecord}
use Rattle.open_agents.specs.OpenItems.{is_for_driver, manager_of, manages_any, managers_of_any}
use Rattle.driver_connect.specs.Stopping.{is_made_by, is_maker, is_one_of, made_by, manages_made, managers_of_made, same_pair}

-- ---- one pair

of_controller : (p : Pair) (m : Option Pair) → is_maker (p ∷ []) m ≡ true → is_of_controller p.controller m ≡ true
of_controller p None h = cc
of_controller p (Some m) h = elim (cases_Bool (m.controller == p.controller)) [
  | inl e ↦ e
  | inr e ↦ let n = rw e at h in cc
]

among_made : (p : Pair) (hs : List LiveHandle) (k : ℕ) → is_maker (p ∷ []) (option_and_then (λ h. h.maker) (find (has_number k) hs)) ≡ true → has_place (numbers_made_on p.controller hs) k ≡ true
among_made p [] k w = cc
among_made p (h ∷ hs) k w = elim (cases_Bool (h.number == k)) [
  | inl e ↦ let on : is_made_on p.controller h ≡ true = of_controller p h.maker (rw e at w) in rw on (rw e refl)
  | inr e ↦
      let rest = among_made p hs k (rw e at w) in
      elim (cases_Bool (is_made_on p.controller h)) [
        | inl f ↦ rw f (rw e rest)
        | inr f ↦ rw f rest
      ]
]

-- a handle that a pair made is among those made on its controller
pub made_there : (t : HandleTable) (p : Pair) (on : List ℕ) (k : ℕ) → on ≡ made_on t p.controller → (has_place on k && is_made_by t (p ∷ []) k) ≡ is_made_by t (p ∷ []) k
made_there t p on k e = elim (cases_Bool (is_made_by t (p ∷ []) k)) [
  | inl f ↦ rw f (rw e (rw (among_made p t.handles k f) refl))
  | inr f ↦ rw f (and_false (has_place on k))
]
  where
    and_false : (a : Bool) → (a && false) ≡ false
    and_false true = refl
    and_false false = refl

-- ---- some pairs

one_or_others : (p : Pair) (ps : List Pair) (m : Option Pair) → (is_maker (p ∷ []) m || is_maker ps m) ≡ is_maker (p ∷ ps) m
one_or_others p ps None = refl
one_or_others p ps (Some m) = elim (cases_Bool (same_pair m p)) [
  | inl e ↦ rw e refl
  | inr e ↦ rw e refl
]

or_or : (a b c : Bool) → ((a || b) || c) ≡ (a || (b || c))
or_or true b c = refl
or_or false b c = refl

-- the handles that one pair made come to those before
pub one_pair_more : (t : HandleTable) (p : Pair) (ps : List Pair) (before new : List ℕ) (k : ℕ) → has_place new k ≡ (has_place before k || is_made_by t (p ∷ []) k) → (has_place before k || is_made_by t (p ∷ ps) k) ≡ (has_place new k || is_made_by t ps k)
one_pair_more t p ps before new k e =
    ap (λ b. has_place before k || b) (sym (one_or_others p ps (maker_of t k)))
    ∙ sym (or_or (has_place before k) (is_made_by t (p ∷ []) k) (is_made_by t ps k))
    ∙ ap (λ b. b || is_made_by t ps k) (sym e)

pub by_nobody : (t : HandleTable) (k : ℕ) → is_made_by t [] k ≡ false
by_nobody t k = no_maker (maker_of t k)
  where
    no_maker : (m : Option Pair) → is_maker [] m ≡ false
    no_maker None = refl
    no_maker (Some m) = refl

-- ---- all of them

among_numbers : (pairs : List Pair) (hs : List LiveHandle) (k : ℕ) → is_maker pairs (option_and_then (λ h. h.maker) (find (has_number k) hs)) ≡ true → has_place (map (λ h. h.number) hs) k ≡ true
among_numbers pairs [] k w = cc
among_numbers pairs (h ∷ hs) k w = elim (cases_Bool (h.number == k)) [
  | inl e ↦ rw e refl
  | inr e ↦ rw e (among_numbers pairs hs k (rw e at w))
]

made_place : (t : HandleTable) (pairs : List Pair) (k : ℕ) → has_place (made_by t pairs) k ≡ is_made_by t pairs k
made_place t pairs k =
    any_kept (is_made_by t pairs) (numbers t) k
    ∙ elim (cases_Bool (is_made_by t pairs k)) [
      | inl e ↦ rw e (rw (among_numbers pairs t.handles k e) refl)
      | inr e ↦ rw e (and_false (has_place (numbers t) k))
    ]
  where
    and_false : (a : Bool) → (a && false) ≡ false
    and_false true = refl
    and_false false = refl

pub all_made : (t : HandleTable) (pairs : List Pair) (made : List ℕ) → IsHandleTable t → Ascending (λ a b. a < b) made → ((k : ℕ) → has_place made k ≡ is_made_by t pairs k) → made ≡ made_by t pairs
all_made t pairs made i a h =
    same_places made (made_by t pairs) a (ascending_filter (λ a b. a < b) (is_made_by t pairs) (numbers t) i.ascending) (λ k. h k ∙ sym (made_place t pairs k))

pub none_is_0 : (t : HandleTable) (pairs : List Pair) → IsHandleTable t → AllByRecursion (λ n. (n == 0) ≡ false) (made_by t pairs)
none_is_0 t pairs i =
    all_filter (λ n. (n == 0) ≡ false) (is_made_by t pairs) (numbers t)
    (all_map (λ n. (0 < n) × (n ≤ t.last_number)) (λ n. (n == 0) ≡ false) (λ n l. ne_eqb n 0 (λ w. omega (arith, l.0, w))) (numbers t) i.given)

-- ---- one handle

equal_round : (x y : ℕ) → (x == y) ≡ (y == x)
equal_round x y = elim (eqb_tells x y) [
  | inl t ↦ t.0 ∙ sym (eq-eqb y x (sym t.1))
  | inr f ↦ f.0 ∙ sym (ne_eqb y x (λ e. f.1 (sym e)))
]

one_as_place : (ns : List ℕ) (n : ℕ) → is_one_of ns n ≡ has_place ns n
one_as_place [] n = refl
one_as_place (m ∷ ms) n = ap (λ b. b || is_one_of ms n) (equal_round n m) ∙ ap (λ b. (m == n) || b) (one_as_place ms n)

-- a handle is one of those that some pairs made where these made it
pub is_one_made : (t : HandleTable) (pairs : List Pair) (n : ℕ) → is_one_of (made_by t pairs) n ≡ is_made_by t pairs n
is_one_made t pairs n = one_as_place (made_by t pairs) n ∙ made_place t pairs n

-- ---- the managers of them

pub managers_of_made_handles : (t : HandleTable) (opens : List OpenRecord) (pairs : List Pair) → managers_of_any opens (made_by t pairs) ≡ managers_of_made t opens pairs
managers_of_made_handles t opens pairs =
    ap (map manager_of)
    (filter_same (manages_any (made_by t pairs)) (manages_made t pairs) opens
    (all_of (λ o. manages_any (made_by t pairs) o ≡ manages_made t pairs o) (λ o. ap (λ b. is_for_driver o.attributes && b) (is_one_made t pairs o.controller)) opens))

-- ---- after the last

pub drop_whole : {X : Type 0} (ns : List X) (k : ℕ) → length ns ≤ k → drop k ns ≡ []
drop_whole [] zero l = refl
drop_whole [] (suc k) l = refl
drop_whole (n ∷ ns) zero l = absurd (omega (arith, l))
drop_whole (n ∷ ns) (suc k) l = drop_whole ns k (omega (arith, l))

pub all_added : (t : HandleTable) (p : Pair) (on before new : List ℕ) (i k : ℕ) → on ≡ made_on t p.controller → length on ≤ i
    → (has_place new k || (has_place (drop i on) k && is_made_by t (p ∷ []) k)) ≡ (has_place before k || (has_place on k && is_made_by t (p ∷ []) k)) → has_place new k ≡ (has_place before k || is_made_by t (p ∷ []) k)
all_added t p on before new i k e l h =
    sym (or_false (has_place new k)) ∙ (rw (drop_whole on i l) at h) ∙ ap (λ b. has_place before k || b) (made_there t p on k e)
  where
    or_false : (a : Bool) → (a || false) ≡ a
    or_false true = refl
    or_false false = refl

pub all_pairs_done : (t : HandleTable) (pairs : List Pair) (made : List ℕ) (i k : ℕ) → length pairs ≤ i → is_made_by t pairs k ≡ (has_place made k || is_made_by t (drop i pairs) k) → has_place made k ≡ is_made_by t pairs k
all_pairs_done t pairs made i k l h = sym (h ∙ ap (λ ps. has_place made k || is_made_by t ps k) (drop_whole pairs i l) ∙ ap (λ b. has_place made k || b) (by_nobody t k) ∙ or_false (has_place made k))
  where
    or_false : (a : Bool) → (a || false) ≡ a
    or_false true = refl
    or_false false = refl
