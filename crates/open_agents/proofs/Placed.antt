-- The items at their places, and what keeps the lists of places in step with them.
use Rattle.std.proofs.Math.ListN.{set}
use Rattle.std.proofs.Common.{get_or, ◌≡◌, ℕ, zero, suc, ◌+◌, ◌<◌, ◌≤◌, ◌==◌, ◌&&◌, ◌||◌, not, Bool, true, false, cond, List, [], ◌∷◌, ◌++◌, map, length, Option, Some, None, is_some, inl, inr, refl, sym, ap, ◌∙◌, arith, subst}
use Rattle.std.specs.List.{filter, list_any, AllByRecursion}
use Rattle.std.proofs.lemmas.List.{append-nil, length_push}
use Rattle.std.proofs.lemmas.Bool.{cases_Bool, eq-eqb, ne_eqb}
use Rattle.std.proofs.lemmas.Option.{same_Some}
use Rattle.guid_handles.specs.HandleTables.{same_guid}
use Rattle.guid_handles.specs.Sorting.{Ascending}
use Rattle.guid_handles.proofs.SortedLists.{all_both, all_map, ascending_filter, all_push, all_mapped, ascending_push, ascending_map}
use Rattle.guid_handles.proofs.GuidOrder.{same_guid-true, and_false}
use Rattle.guid_handles.proofs.Grouped.{is_same}
use Rattle.open_agents.specs.declared.items.OpenRecord.{OpenRecord}
use Rattle.open_agents.specs.OpenItems.{is_equal_item, counted, once_more}
use Rattle.guid_handles.specs.NumberLists.{ChangesLists, IsFree, list_of, with_last, without}
use Rattle.guid_handles.specs.Places.{AddsPlaces, has_place}
use Rattle.guid_handles.proofs.PlaceLists as places
use Rattle.open_agents.specs.Blocks.{HoldsAt, IsOpenStore, are_equal, second_block, is_near, item_at, items_at, items_in, passes, places_from}

-- ---- items by places

-- the items at the places of those that pass a test are those
pub placed_items : (q : OpenRecord → Bool) (all slots : List (Option OpenRecord)) (i : ℕ) → ((k : ℕ) → item_at all (i + k) ≡ item_at slots k) → items_at all (places_from i q slots) ≡ filter q (items_in slots)
placed_items q all [] i h = refl
placed_items q all (None ∷ ss) i h =
    placed_items q all ss (i + 1) (λ k. ap (item_at all) (omega arith) ∙ h (suc k))
placed_items q all (Some o ∷ ss) i h =
    let first : item_at all i ≡ Some o = ap (item_at all) (omega arith) ∙ h 0 in
    let rest : items_at all (places_from (i + 1) q ss) ≡ filter q (items_in ss) = placed_items q all ss (i + 1) (λ k. ap (item_at all) (omega arith) ∙ h (suc k)) in
    elim (cases_Bool (q o)) [
      | inl e ↦ rw e (rw first (ap (λ r. o ∷ r) rest))
      | inr e ↦ rw e rest
    ]

pub store_near : (slots : List (Option OpenRecord)) (near : List (ℕ × List ℕ)) (known : List ℕ) → IsOpenStore slots near known → (n : ℕ) → items_at slots (list_of near n) ≡ filter (is_near n) (items_in slots)
store_near slots near known h n =
    ap (items_at slots) (h.in_step n) ∙ placed_items (is_near n) slots slots 0 (λ k. ap (item_at slots) (omega arith))

held_one : (p : OpenRecord → Bool) (s : Option OpenRecord) → passes p s ≡ true → (x : OpenRecord) × (s ≡ Some x) × (p x ≡ true)
held_one p None h = absurd cc
held_one p (Some x) h = (x, refl, h)

-- an item that passes a test is at a place
pub held : (p : OpenRecord → Bool) (slots : List (Option OpenRecord)) (k : ℕ) → HoldsAt p slots k → (x : OpenRecord) × (item_at slots k ≡ Some x) × (p x ≡ true)
held p slots k h = held_one p (item_at slots k) h

-- what is read at a place where an item is
pub there : (slots : List (Option OpenRecord)) (k : ℕ) (s : Option OpenRecord) → is_some (item_at slots k) ≡ true → s ≡ get_or slots k s → item_at slots k ≡ s
there [] k s h e = absurd cc
there (z ∷ zs) zero s h e = sym e
there (z ∷ zs) (suc k) s h e = there zs k s h e

pub held_is : (p : OpenRecord → Bool) (slots : List (Option OpenRecord)) (k : ℕ) → HoldsAt p slots k → is_some (item_at slots k) ≡ true
held_is p slots k h = let w = held p slots k h in ap is_some w.1

-- what holds of all items holds of one
pub got_item : (P : OpenRecord → Type 0) (slots : List (Option OpenRecord)) (k : ℕ) (x : OpenRecord) → AllByRecursion P (items_in slots) → item_at slots k ≡ Some x → P x
got_item P [] k x h e = absurd cc
got_item P (None ∷ ss) zero x h e = absurd cc
got_item P (Some o ∷ ss) zero x h e = subst P (same_Some o x e) h.0
got_item P (None ∷ ss) (suc k) x h e = got_item P ss k x h e
got_item P (Some o ∷ ss) (suc k) x h e = got_item P ss k x h.1 e

pub any_there : (p : OpenRecord → Bool) (slots : List (Option OpenRecord)) (k : ℕ) (x : OpenRecord) → item_at slots k ≡ Some x → p x ≡ true → list_any p (items_in slots) ≡ true
any_there p [] k x e t = absurd cc
any_there p (None ∷ ss) zero x e t = absurd cc
any_there p (Some o ∷ ss) zero x e t = let n : p o ≡ true = rw (same_Some o x e) t in rw n refl
any_there p (None ∷ ss) (suc k) x e t = any_there p ss k x e t
any_there p (Some o ∷ ss) (suc k) x e t = elim (cases_Bool (p o)) [
  | inl y ↦ rw y refl
  | inr y ↦ rw y (any_there p ss k x e t)
]

pub held_any : (p : OpenRecord → Bool) (slots : List (Option OpenRecord)) (k : ℕ) → HoldsAt p slots k → list_any p (items_in slots) ≡ true
held_any p slots k h = let w = held p slots k h in any_there p slots k w.0 w.1 w.2

-- ---- an item goes

-- an item that a filter leaves out may go first
filter_vacated : (q : OpenRecord → Bool) (slots : List (Option OpenRecord)) (k : ℕ) (x : OpenRecord) → item_at slots k ≡ Some x → q x ≡ false → filter q (items_in (set slots k None)) ≡ filter q (items_in slots)
filter_vacated q [] k x e f = absurd cc
filter_vacated q (None ∷ ss) zero x e f = absurd cc
filter_vacated q (Some o ∷ ss) zero x e f = let n : q o ≡ false = rw (same_Some o x e) f in rw n refl
filter_vacated q (None ∷ ss) (suc k) x e f = filter_vacated q ss k x e f
filter_vacated q (Some o ∷ ss) (suc k) x e f = ap (λ r. cond (q o) (o ∷ r) r) (filter_vacated q ss k x e f)

pub without_held : (p : OpenRecord → Bool) (slots : List (Option OpenRecord)) (k : ℕ) → HoldsAt p slots k → filter (λ o. not (p o)) (items_in (set slots k None)) ≡ filter (λ o. not (p o)) (items_in slots)
without_held p slots k h = let w = held p slots k h in filter_vacated (λ o. not (p o)) slots k w.0 w.1 (ap not w.2)

pub vacated_count : (slots : List (Option OpenRecord)) (k : ℕ) (x : OpenRecord) → item_at slots k ≡ Some x → length (items_in (set slots k None)) + 1 ≡ length (items_in slots)
vacated_count [] k x e = absurd cc
vacated_count (None ∷ ss) zero x e = absurd cc
vacated_count (Some o ∷ ss) zero x e = omega arith
vacated_count (None ∷ ss) (suc k) x e = vacated_count ss k x e
vacated_count (Some o ∷ ss) (suc k) x e = omega (arith, vacated_count ss k x e)

-- there are no more items than places
pub few_items : (slots : List (Option OpenRecord)) → length (items_in slots) ≤ length slots
few_items [] = omega arith
few_items (None ∷ ss) = omega (arith, few_items ss)
few_items (Some o ∷ ss) = omega (arith, few_items ss)

pub vacated_smaller : (p : OpenRecord → Bool) (slots : List (Option OpenRecord)) (k : ℕ) → HoldsAt p slots k → length (items_in (set slots k None)) < length (items_in slots)
vacated_smaller p slots k h = let w = held p slots k h in omega (arith, vacated_count slots k w.0 w.1)

pub all_vacated : (P : OpenRecord → Type 0) (slots : List (Option OpenRecord)) (k : ℕ) → AllByRecursion P (items_in slots) → AllByRecursion P (items_in (set slots k None))
all_vacated P [] zero h = tt
all_vacated P [] (suc k) h = tt
all_vacated P (None ∷ ss) zero h = h
all_vacated P (Some o ∷ ss) zero h = h.1
all_vacated P (None ∷ ss) (suc k) h = all_vacated P ss k h
all_vacated P (Some o ∷ ss) (suc k) h = (h.0, all_vacated P ss k h.1)

ascending_vacated : (R : OpenRecord → OpenRecord → Type 0) (slots : List (Option OpenRecord)) (k : ℕ) → Ascending R (items_in slots) → Ascending R (items_in (set slots k None))
ascending_vacated R [] zero h = tt
ascending_vacated R [] (suc k) h = tt
ascending_vacated R (None ∷ ss) zero h = h
ascending_vacated R (Some o ∷ ss) zero h = h.1
ascending_vacated R (None ∷ ss) (suc k) h = ascending_vacated R ss k h
ascending_vacated R (Some o ∷ ss) (suc k) h = (all_vacated (R o) ss k h.0, ascending_vacated R ss k h.1)

pub places_above : (q : OpenRecord → Bool) (slots : List (Option OpenRecord)) (i : ℕ) → AllByRecursion (λ x. i ≤ x) (places_from i q slots)
places_above q [] i = tt
places_above q (s ∷ ss) i =
    let rest : AllByRecursion (λ x. i ≤ x) (places_from (i + 1) q ss) = all_map (λ x. i + 1 ≤ x) (λ x. i ≤ x) (λ x l. omega (arith, l)) (places_from (i + 1) q ss) (places_above q ss (i + 1)) in
    elim (cases_Bool (passes q s)) [
      | inl e ↦ rw e (omega arith, rest)
      | inr e ↦ rw e rest
    ]

filter_all : {X : Type 0} (p : X → Bool) (xs : List X) → AllByRecursion (λ x. p x ≡ true) xs → filter p xs ≡ xs
filter_all p [] h = refl
filter_all p (x ∷ xs) h = rw h.0 (ap (λ r. x ∷ r) (filter_all p xs h.1))

-- a place that is emptied is taken out of the places
places_vacated : (q : OpenRecord → Bool) (slots : List (Option OpenRecord)) (i k : ℕ) → places_from i q (set slots k None) ≡ filter (λ x. not (x == (i + k))) (places_from i q slots)
places_vacated q [] i zero = refl
places_vacated q [] i (suc k) = refl
places_vacated q (s ∷ ss) i zero =
    let other : (x : ℕ) → i + 1 ≤ x → not (x == (i + 0)) ≡ true = λ x l. ap not (ne_eqb x (i + 0) (λ w. omega (arith, w, l))) in
    let rest : filter (λ x. not (x == (i + 0))) (places_from (i + 1) q ss) ≡ places_from (i + 1) q ss =
    filter_all (λ x. not (x == (i + 0))) (places_from (i + 1) q ss) (all_map (λ x. i + 1 ≤ x) (λ x. not (x == (i + 0)) ≡ true) other (places_from (i + 1) q ss) (places_above q ss (i + 1))) in
    let own : not (i == (i + 0)) ≡ false = ap not (eq-eqb i (i + 0) (omega arith)) in
    elim (cases_Bool (passes q s)) [
      | inl e ↦ rw e (rw own (sym rest))
      | inr e ↦ rw e (sym rest)
    ]
places_vacated q (s ∷ ss) i (suc k) =
    let rest : places_from (i + 1) q (set ss k None) ≡ filter (λ x. not (x == (i + suc k))) (places_from (i + 1) q ss) =
    places_vacated q ss (i + 1) k ∙ ap (λ n. filter (λ x. not (x == n)) (places_from (i + 1) q ss)) (omega arith) in
    let other : not (i == (i + suc k)) ≡ true = ap not (ne_eqb i (i + suc k) (λ w. omega (arith, w))) in
    elim (cases_Bool (passes q s)) [
      | inl e ↦ rw e (rw other (ap (λ r. i ∷ r) rest))
      | inr e ↦ rw e rest
    ]

places_other : (q : OpenRecord → Bool) (slots : List (Option OpenRecord)) (i k : ℕ) (x : OpenRecord) → item_at slots k ≡ Some x → q x ≡ false → places_from i q (set slots k None) ≡ places_from i q slots
places_other q [] i k x e f = absurd cc
places_other q (None ∷ ss) i zero x e f = absurd cc
places_other q (Some o ∷ ss) i zero x e f = let n : q o ≡ false = rw (same_Some o x e) f in rw n refl
places_other q (s ∷ ss) i (suc k) x e f = ap (λ r. cond (passes q s) (i ∷ r) r) (places_other q ss (i + 1) k x e f)

pub emptied : (q : OpenRecord → Bool) (slots : List (Option OpenRecord)) (k : ℕ) → filter (λ x. not (x == k)) (places_from 0 q slots) ≡ places_from 0 q (set slots k None)
emptied q slots k = sym (places_vacated q slots 0 k ∙ ap (λ n. filter (λ x. not (x == n)) (places_from 0 q slots)) (omega arith))

near_removed : (slots : List (Option OpenRecord)) (k : ℕ) (x : OpenRecord) (old new : List (ℕ × List ℕ)) → item_at slots k ≡ Some x → ((n : ℕ) → list_of old n ≡ places_from 0 (is_near n) slots)
    → ChangesLists x.handle (second_block x) (without k) old new → (n : ℕ) → list_of new n ≡ places_from 0 (is_near n) (set slots k None)
near_removed slots k x old new e h c n = elim (cases_Bool (is_near n x)) [
  | inl t ↦ c n ∙ rw t (ap (without k) (h n) ∙ emptied (is_near n) slots k)
  | inr f ↦ c n ∙ rw f (h n ∙ sym (places_other (is_near n) slots 0 k x e f))
]

pub store_removed : (slots : List (Option OpenRecord)) (k : ℕ) (x : OpenRecord) (old new : List (ℕ × List ℕ)) (known : List ℕ) → IsOpenStore slots old known → item_at slots k ≡ Some x
    → ChangesLists x.handle (second_block x) (without k) old new → IsOpenStore (set slots k None) new known
store_removed slots k x old new known h e c = record {
  in_step = near_removed slots k x old new e h.in_step c;
  ascending = h.ascending;
  listed = all_vacated (λ o. has_place known o.agent ≡ true) slots k h.listed;
  distinct = ascending_vacated (λ o p. are_equal p o ≡ false) slots k h.distinct;
  agents = all_vacated (λ o. (o.agent == 0) ≡ false) slots k h.agents;
}

pub from_ascends : (q : OpenRecord → Bool) (slots : List (Option OpenRecord)) (i : ℕ) → Ascending (λ a b. a < b) (places_from i q slots)
from_ascends q [] i = tt
from_ascends q (s ∷ ss) i =
    let rest = from_ascends q ss (i + 1) in
    elim (cases_Bool (passes q s)) [
      | inl e ↦ rw e (all_map (λ x. i + 1 ≤ x) (λ x. i < x) (λ x l. omega (arith, l)) (places_from (i + 1) q ss) (places_above q ss (i + 1)), rest)
      | inr e ↦ rw e rest
    ]

-- the places near a handle ascend
pub near_ascends : (slots : List (Option OpenRecord)) (near : List (ℕ × List ℕ)) (known : List ℕ) → IsOpenStore slots near known → (m : ℕ) → Ascending (λ x y. x < y) (list_of near m)
near_ascends slots near known h m = subst (Ascending (λ x y. x < y)) (sym (h.in_step m)) (from_ascends (is_near m) slots 0)

-- ---- an item comes

pub items_pushed : (slots : List (Option OpenRecord)) (o : OpenRecord) → items_in (slots ++ Some o ∷ []) ≡ items_in slots ++ o ∷ []
items_pushed [] o = refl
items_pushed (None ∷ ss) o = items_pushed ss o
items_pushed (Some p ∷ ss) o = ap (λ r. p ∷ r) (items_pushed ss o)

pub count_pushed : (slots : List (Option OpenRecord)) (o : OpenRecord) → length (items_in (slots ++ Some o ∷ [])) ≡ length (items_in slots) + 1
count_pushed slots o = ap length (items_pushed slots o) ∙ length_push (items_in slots) o

places_pushed : (q : OpenRecord → Bool) (slots : List (Option OpenRecord)) (i : ℕ) (o : OpenRecord) → places_from i q (slots ++ Some o ∷ []) ≡ places_from i q slots ++ cond (q o) ((i + length slots) ∷ []) []
places_pushed q [] i o = ap (λ n. cond (q o) (n ∷ []) []) (omega arith)
places_pushed q (s ∷ ss) i o =
    let rest : places_from (i + 1) q (ss ++ Some o ∷ []) ≡ places_from (i + 1) q ss ++ cond (q o) ((i + suc (length ss)) ∷ []) [] =
    places_pushed q ss (i + 1) o ∙ ap (λ n. places_from (i + 1) q ss ++ cond (q o) (n ∷ []) []) (omega arith) in
    elim (cases_Bool (passes q s)) [
      | inl e ↦ rw e (ap (λ r. i ∷ r) rest)
      | inr e ↦ rw e rest
    ]

filled : (q : OpenRecord → Bool) (slots : List (Option OpenRecord)) (o : OpenRecord) → places_from 0 q (slots ++ Some o ∷ []) ≡ places_from 0 q slots ++ cond (q o) (length slots ∷ []) []
filled q slots o = places_pushed q slots 0 o ∙ ap (λ n. places_from 0 q slots ++ cond (q o) (n ∷ []) []) (omega arith)

near_pushed : (slots : List (Option OpenRecord)) (o : OpenRecord) (old new : List (ℕ × List ℕ)) → ((n : ℕ) → list_of old n ≡ places_from 0 (is_near n) slots)
    → ChangesLists o.handle (second_block o) (with_last (length slots)) old new → (n : ℕ) → list_of new n ≡ places_from 0 (is_near n) (slots ++ Some o ∷ [])
near_pushed slots o old new h c n = elim (cases_Bool (is_near n o)) [
  | inl t ↦ c n ∙ rw t (ap (with_last (length slots)) (h n) ∙ sym (rw (filled (is_near n) slots o, t) refl))
  | inr f ↦ c n ∙ rw f (h n ∙ sym (rw (filled (is_near n) slots o, f, append-nil) refl))
]

none_any : {X : Type 0} (p : X → Bool) (xs : List X) → list_any p xs ≡ false → AllByRecursion (λ x. p x ≡ false) xs
none_any p [] h = tt
none_any p (x ∷ xs) h = elim (cases_Bool (p x)) [
  | inl e ↦ let n = rw e at h in cc
  | inr e ↦ (e, none_any p xs (rw e at h))
]

-- ---- agents

or_true : (a : Bool) → (a || true) ≡ true
or_true true = refl
or_true false = refl

-- an agent more
still_listed : (os : List OpenRecord) (a : ℕ) (old new : List ℕ) → AddsPlaces (λ k. a == k) old new → AllByRecursion (λ o. has_place old o.agent ≡ true) os → AllByRecursion (λ o. has_place new o.agent ≡ true) os
still_listed os a old new c h = all_map (λ (o : OpenRecord). has_place old o.agent ≡ true) (λ (o : OpenRecord). has_place new o.agent ≡ true) (λ o t. c o.agent ∙ rw t refl) os h

now_listed : (a : ℕ) (old new : List ℕ) → AddsPlaces (λ k. a == k) old new → has_place new a ≡ true
now_listed a old new c = c a ∙ ap (λ b. has_place old a || b) (eq-eqb a a refl) ∙ or_true (has_place old a)

-- where a handle is not among them, no item is of it
pub none_listed : (os : List OpenRecord) (known : List ℕ) (a : ℕ) → AllByRecursion (λ o. has_place known o.agent ≡ true) os → has_place known a ≡ false → AllByRecursion (λ o. (o.agent == a) ≡ false) os
none_listed [] known a h n = tt
none_listed (o ∷ os) known a h n = (
  elim (cases_Bool (o.agent == a)) [
    | inl e ↦
        let same : o.agent ≡ a = is_same o.agent a e in
        let w : true ≡ false = sym h.0 ∙ ap (has_place known) same ∙ n in
        absurd cc
    | inr e ↦ e
  ],
  none_listed os known a h.1 n,
)

pub store_pushed : (slots : List (Option OpenRecord)) (o : OpenRecord) (old new : List (ℕ × List ℕ)) (known more : List ℕ) → IsOpenStore slots old known → list_any (are_equal o) (items_in slots) ≡ false → (o.agent == 0) ≡ false
    → Ascending (λ a b. a < b) more → AddsPlaces (λ k. o.agent == k) known more → ChangesLists o.handle (second_block o) (with_last (length slots)) old new → IsOpenStore (slots ++ Some o ∷ []) new more
store_pushed slots o old new known more h n a s d c = record {
  in_step = near_pushed slots o old new h.in_step c;
  ascending = s;
  listed = rw (items_pushed slots o) (all_push (λ p. has_place more p.agent ≡ true) (items_in slots) o (still_listed (items_in slots) o.agent known more d h.listed) (now_listed o.agent known more d));
  distinct = rw (items_pushed slots o) (ascending_push (λ p q. are_equal q p ≡ false) (items_in slots) o h.distinct (none_any (are_equal o) (items_in slots) n));
  agents = rw (items_pushed slots o) (all_push (λ p. (p.agent == 0) ≡ false) (items_in slots) o h.agents a);
}

-- where no list changed, and an agent more is known
pub store_stays : (slots : List (Option OpenRecord)) (a : ℕ) (old new : List (ℕ × List ℕ)) (known more : List ℕ) → IsOpenStore slots old known → ((m : ℕ) → list_of new m ≡ list_of old m)
    → Ascending (λ x y. x < y) more → AddsPlaces (λ k. a == k) known more → IsOpenStore slots new more
store_stays slots a old new known more h s o d = record {
  in_step = λ n. s n ∙ h.in_step n;
  ascending = o;
  listed = still_listed (items_in slots) a known more d h.listed;
  distinct = h.distinct;
  agents = h.agents;
}

-- an agent of no item is forgotten
pub store_forgets : (slots : List (Option OpenRecord)) (a : ℕ) (near : List (ℕ × List ℕ)) (known : List ℕ) → IsOpenStore slots near known → AllByRecursion (λ o. (o.agent == a) ≡ false) (items_in slots)
    → IsOpenStore slots near (filter (λ x. not (x == a)) known)
store_forgets slots a near known h n = record {
  in_step = h.in_step;
  ascending = ascending_filter (λ x y. x < y) (λ x. not (x == a)) known h.ascending;
  listed = all_both (λ (o : OpenRecord). has_place known o.agent ≡ true) (λ (o : OpenRecord). (o.agent == a) ≡ false) (λ (o : OpenRecord). has_place (filter (λ x. not (x == a)) known) o.agent ≡ true)
      (λ o t f. places.any_kept (λ x. not (x == a)) known o.agent ∙ rw (t, f) refl) (items_in slots) h.listed n;
  distinct = h.distinct;
  agents = h.agents;
}

set_end : (slots : List (Option OpenRecord)) → set slots (length slots) None ≡ slots
set_end [] = refl
set_end (s ∷ ss) = ap (λ r. s ∷ r) (set_end ss)

-- the next place is in no list
pub next_free : (slots : List (Option OpenRecord)) (near : List (ℕ × List ℕ)) (known : List ℕ) → IsOpenStore slots near known → IsFree (length slots) near
next_free slots near known h m =
    ap (without (length slots)) (h.in_step m)
    ∙ emptied (is_near m) slots (length slots)
    ∙ ap (places_from 0 (is_near m)) (set_end slots)
    ∙ sym (h.in_step m)

-- ---- items that go over to fresh places

all_after : (P : OpenRecord → Type 0) (xs : List OpenRecord) (o : OpenRecord) (rest : List OpenRecord) → AllByRecursion P (xs ++ o ∷ rest) → P o
all_after P [] o rest h = h.0
all_after P (x ∷ xs) o rest h = all_after P xs o rest h.1

pub all_ahead : (P : OpenRecord → Type 0) (xs : List OpenRecord) (o : OpenRecord) (rest all : List OpenRecord) → xs ++ o ∷ rest ≡ all → AllByRecursion P all → P o
all_ahead P xs o rest all e h = all_after P xs o rest (rw e h)

none_among : (xs : List OpenRecord) (o : OpenRecord) (rest : List OpenRecord) → Ascending (λ o p. are_equal p o ≡ false) (xs ++ o ∷ rest) → list_any (are_equal o) xs ≡ false
none_among [] o rest d = refl
none_among (x ∷ xs) o rest d =
    let f : are_equal o x ≡ false = all_after (λ p. are_equal p x ≡ false) xs o rest d.0 in
    rw f (none_among xs o rest d.1)

-- of unequal items none is equal to one after it
pub none_ahead : (xs : List OpenRecord) (o : OpenRecord) (rest all : List OpenRecord) → xs ++ o ∷ rest ≡ all → Ascending (λ o p. are_equal p o ≡ false) all → list_any (are_equal o) xs ≡ false
none_ahead xs o rest all e d = none_among xs o rest (rw e d)

-- ---- counted

-- what an equal item has
record IsAlike (n : ℕ) (guid : List ℕ) (agent controller a : ℕ) (o : OpenRecord) : Type 0 where
  handle : o.handle ≡ n
  guid_is : o.guid ≡ guid
  agent_is : o.agent ≡ agent
  controller_is : o.controller ≡ controller
  attributes : o.attributes ≡ a

parts : (a b : Bool) → (a && b) ≡ true → (a ≡ true) × (b ≡ true)
parts true b h = (refl, h)
parts false b h = cc

alike : (n : ℕ) (guid : List ℕ) (agent controller a : ℕ) (o : OpenRecord) → is_equal_item n guid agent controller a o ≡ true → IsAlike n guid agent controller a o
alike n guid agent controller a o h =
    let top = parts ((o.handle == n) && same_guid o.guid guid) (((o.agent == agent) && (o.controller == controller)) && (o.attributes == a)) h in
    let on = parts (o.handle == n) (same_guid o.guid guid) top.0 in
    let rest = parts ((o.agent == agent) && (o.controller == controller)) (o.attributes == a) top.1 in
    let pair = parts (o.agent == agent) (o.controller == controller) rest.0 in
    record {
      handle = is_same o.handle n on.0;
      guid_is = same_guid-true o.guid guid on.1;
      agent_is = is_same o.agent agent pair.0;
      controller_is = is_same o.controller controller pair.1;
      attributes = is_same o.attributes a rest.1;
    }

-- the items equal to an equal item are the equal ones
equal_as : (n : ℕ) (guid : List ℕ) (agent controller a : ℕ) (o p : OpenRecord) → is_equal_item n guid agent controller a o ≡ true → are_equal o p ≡ is_equal_item n guid agent controller a p
equal_as n guid agent controller a o p h =
    let k = alike n guid agent controller a o h in rw (k.handle, k.guid_is, k.agent_is, k.controller_is, k.attributes) refl

none_counted : (q : OpenRecord → Bool) (os : List OpenRecord) → AllByRecursion (λ o. q o ≡ false) os → map (counted q) os ≡ os
none_counted q [] h = refl
none_counted q (o ∷ os) h = rw h.0 (ap (λ r. o ∷ r) (none_counted q os h.1))

-- there is one equal item, so it alone is counted
pub one_counted : (n : ℕ) (guid : List ℕ) (agent controller a : ℕ) (slots : List (Option OpenRecord)) (k : ℕ) (x : OpenRecord) → Ascending (λ o p. are_equal p o ≡ false) (items_in slots) → item_at slots k ≡ Some x
    → is_equal_item n guid agent controller a x ≡ true → map (counted (is_equal_item n guid agent controller a)) (items_in slots) ≡ items_in (set slots k (Some (record x { count = once_more x.count })))
one_counted n guid agent controller a [] k x d e t = absurd cc
one_counted n guid agent controller a (None ∷ ss) zero x d e t = absurd cc
one_counted n guid agent controller a (Some o ∷ ss) zero x d e t =
    let q : OpenRecord → Bool = is_equal_item n guid agent controller a in
    let s : o ≡ x = same_Some o x e in
    let own : q o ≡ true = rw s t in
    let others : AllByRecursion (λ p. q p ≡ false) (items_in ss) = all_map (λ p. are_equal p o ≡ false) (λ p. q p ≡ false) (λ p f. elim (cases_Bool (q p)) [
      | inl y ↦ let w = sym (equal_as n guid agent controller a p o y ∙ own) ∙ f in absurd cc
      | inr y ↦ y
    ]) (items_in ss) d.0 in
    rw own (rw (none_counted q (items_in ss) others) (ap (λ (p : OpenRecord). record p { count = once_more p.count } ∷ items_in ss) s))
one_counted n guid agent controller a (None ∷ ss) (suc k) x d e t = one_counted n guid agent controller a ss k x d e t
one_counted n guid agent controller a (Some o ∷ ss) (suc k) x d e t =
    let q : OpenRecord → Bool = is_equal_item n guid agent controller a in
    let f : are_equal x o ≡ false = got_item (λ p. are_equal p o ≡ false) ss k x d.0 e in
    let other : q o ≡ false = sym (equal_as n guid agent controller a x o t) ∙ f in
    rw other (ap (λ r. o ∷ r) (one_counted n guid agent controller a ss k x d.1 e t))

-- where an item is counted there are as many
pub count_stays : (slots : List (Option OpenRecord)) (k : ℕ) (x y : OpenRecord) → item_at slots k ≡ Some x → length (items_in (set slots k (Some y))) ≡ length (items_in slots)
count_stays [] k x y e = absurd cc
count_stays (None ∷ ss) zero x y e = absurd cc
count_stays (Some o ∷ ss) zero x y e = refl
count_stays (None ∷ ss) (suc k) x y e = count_stays ss k x y e
count_stays (Some o ∷ ss) (suc k) x y e = ap suc (count_stays ss k x y e)

counted_equal : (q : OpenRecord → Bool) (o p : OpenRecord) → are_equal (counted q o) (counted q p) ≡ are_equal o p
counted_equal q o p = elim (cases_Bool (q o)) [
  | inl e ↦ elim (cases_Bool (q p)) [
    | inl k ↦ rw (e, k) refl
    | inr k ↦ rw (e, k) refl
  ]
  | inr e ↦ elim (cases_Bool (q p)) [
    | inl k ↦ rw (e, k) refl
    | inr k ↦ rw (e, k) refl
  ]
]

counted_agent : (q : OpenRecord → Bool) (o : OpenRecord) → (counted q o).agent ≡ o.agent
counted_agent q o = elim (cases_Bool (q o)) [
  | inl e ↦ rw e refl
  | inr e ↦ rw e refl
]

places_set : (q : OpenRecord → Bool) (slots : List (Option OpenRecord)) (i k : ℕ) (x y : OpenRecord) → item_at slots k ≡ Some x → q y ≡ q x → places_from i q (set slots k (Some y)) ≡ places_from i q slots
places_set q [] i k x y e s = absurd cc
places_set q (None ∷ ss) i zero x y e s = absurd cc
places_set q (Some o ∷ ss) i zero x y e s = let n : q y ≡ q o = s ∙ sym (ap q (same_Some o x e)) in ap (λ c. cond c (i ∷ places_from (i + 1) q ss) (places_from (i + 1) q ss)) n
places_set q (z ∷ ss) i (suc k) x y e s = ap (λ r. cond (passes q z) (i ∷ r) r) (places_set q ss (i + 1) k x y e s)

pub store_counted : (n : ℕ) (guid : List ℕ) (agent controller a : ℕ) (slots : List (Option OpenRecord)) (k : ℕ) (x : OpenRecord) (near : List (ℕ × List ℕ)) (known : List ℕ) → IsOpenStore slots near known → item_at slots k ≡ Some x
    → is_equal_item n guid agent controller a x ≡ true → IsOpenStore (set slots k (Some (record x { count = once_more x.count }))) near known
store_counted n guid agent controller a slots k x near known h e t =
    let q : OpenRecord → Bool = is_equal_item n guid agent controller a in
    let y : OpenRecord = record x { count = once_more x.count } in
    let one : map (counted q) (items_in slots) ≡ items_in (set slots k (Some y)) = one_counted n guid agent controller a slots k x h.distinct e t in
    record {
      in_step = λ m. h.in_step m ∙ sym (places_set (is_near m) slots 0 k x y e refl);
      ascending = h.ascending;
      listed = subst (AllByRecursion (λ (o : OpenRecord). has_place known o.agent ≡ true)) one (all_mapped (λ (o : OpenRecord). has_place known o.agent ≡ true) (λ (o : OpenRecord). has_place known o.agent ≡ true) (counted q) (λ o f. ap (has_place known) (counted_agent q o) ∙ f) (items_in slots) h.listed);
      distinct = subst (Ascending (λ o p. are_equal p o ≡ false)) one (ascending_map (λ o p. are_equal p o ≡ false) (λ o p. are_equal p o ≡ false) (counted q) (λ o p f. counted_equal q p o ∙ f) (items_in slots) h.distinct);
      agents = subst (AllByRecursion (λ o. (o.agent == 0) ≡ false)) one (all_mapped (λ o. (o.agent == 0) ≡ false) (λ o. (o.agent == 0) ≡ false) (counted q) (λ o f. ap (λ m. m == 0) (counted_agent q o) ∙ f) (items_in slots) h.agents);
    }

-- ---- agent 0

-- no item of agent 0 is equal to one that is there
pub none_of_agent_0 : (n : ℕ) (guid : List ℕ) (controller a : ℕ) (os : List OpenRecord) → AllByRecursion (λ o. (o.agent == 0) ≡ false) os → list_any (is_equal_item n guid 0 controller a) os ≡ false
none_of_agent_0 n guid controller a [] h = refl
none_of_agent_0 n guid controller a (o ∷ os) h =
    let f : is_equal_item n guid 0 controller a o ≡ false = rw h.0 (and_false ((o.handle == n) && same_guid o.guid guid)) in
    rw f (none_of_agent_0 n guid controller a os h.1)
