-- Changes after which a handle table is still one.
use Rattle.std.proofs.Common.{◌≡◌, ℕ, ◌+◌, ◌<◌, ◌≤◌, nat_eq, Bool, true, List, [], ◌∷◌, ◌++◌, map, length, Option, sym, ◌∙◌, arith, length-append}
use Rattle.std.specs.List.{filter, list_any, AllByRecursion}
use Rattle.guid_handles.specs.declared.records.Interface.{Interface}
use Rattle.guid_handles.specs.declared.records.LiveHandle.{LiveHandle}
use Rattle.guid_handles.specs.declared.records.Pair.{Pair}
use Rattle.guid_handles.specs.HandleTables.{HandleTable, has_number, is_live, numbers}
use Rattle.guid_handles.specs.HandleChanges.{IsHandleTable, max_handles, restamped, stamped, with_handle, with_interfaces}
use Rattle.guid_handles.specs.Indexes.{AreOn}
use Rattle.guid_handles.proofs.SortedLists.{all_append, all_filter, all_filtered, all_map, all_mapped, all_push, any_found, any_kept, any_map, any_push, ascending_filter, ascending_push, filter_map_filter, filter_shorter, map_append}
use Rattle.guid_handles.proofs.Indexed.{restamped_handle}

-- ---- fewer

-- interfaces go, and the handles stay
pub fewer_interfaces : (p : Interface → Bool) (t : HandleTable) → IsHandleTable t → IsHandleTable (record t { interfaces = filter p t.interfaces })
fewer_interfaces p t h = record {
  ascending = h.ascending;
  given = h.given;
  limit = h.limit;
  on_live = all_filter (λ i. list_any (λ m. nat_eq m i.handle) (numbers t) ≡ true) p t.interfaces h.on_live;
}

-- the handles stay whose numbers pass a test, with the interfaces on them
abbrev pub filtered : (ℕ → Bool) → HandleTable → HandleTable
filtered p t = record t { handles = filter (λ h. p h.number) t.handles; interfaces = filter (λ i. p i.handle) t.interfaces }

left_on_live : (p : ℕ → Bool) (ns : List ℕ) (is : List Interface) → AreOn ns is → AreOn (filter p ns) (filter (λ i. p i.handle) is)
left_on_live p ns is a =
    all_filtered (λ i. list_any (λ m. nat_eq m i.handle) (filter p ns) ≡ true) (λ i. list_any (λ m. nat_eq m i.handle) ns ≡ true) (λ i. p i.handle)
    (λ i k h. any_kept i.handle p ns k h) is a

pub fewer_handles : (p : ℕ → Bool) (t : HandleTable) → IsHandleTable t → IsHandleTable (filtered p t)
fewer_handles p t h =
    let e : numbers (filtered p t) ≡ filter p (numbers t) = filter_map_filter (λ (x : LiveHandle). x.number) p t.handles in
    record {
      ascending = rw e (ascending_filter (λ a b. a < b) p (numbers t) h.ascending);
      given = rw e (all_filter (λ m. (0 < m) × (m ≤ t.last_number)) p (numbers t) h.given);
      limit = omega (arith, h.limit, filter_shorter (λ x. p x.number) t.handles);
      on_live = rw e (left_on_live p (numbers t) t.interfaces h.on_live);
    }

-- ---- changed

-- an interface has another value and another stamp, and a stamp is the last
pub with_stamps : (n : ℕ) (guid : List ℕ) (value stamp last : ℕ) (t : HandleTable) → IsHandleTable t → IsHandleTable (record t { interfaces = map (restamped n guid value stamp) t.interfaces; last_stamp = last })
with_stamps n guid value stamp last t h = record {
  ascending = h.ascending;
  given = h.given;
  limit = h.limit;
  on_live = all_mapped (λ i. list_any (λ m. nat_eq m i.handle) (numbers t) ≡ true) (λ i. list_any (λ m. nat_eq m i.handle) (numbers t) ≡ true) (restamped n guid value stamp)
      (λ i k. rw (restamped_handle n guid value stamp i) k) t.interfaces h.on_live;
}

-- ---- more

stamped_on : (P : ℕ → Bool) (n stamp : ℕ) (pairs : List (List ℕ × ℕ)) → P n ≡ true → AllByRecursion (λ i. P i.handle ≡ true) (stamped n stamp pairs)
stamped_on P n stamp [] h = tt
stamped_on P n stamp (p ∷ ps) h = (h, stamped_on P n (stamp + 1) ps h)

-- a live handle is among the numbers
pub live_number : (t : HandleTable) (n : ℕ) → is_live t n ≡ true → list_any (λ m. nat_eq m n) (numbers t) ≡ true
live_number t n h = any_map (λ (l : LiveHandle). l.number) (λ m. nat_eq m n) t.handles ∙ sym (any_found (has_number n) t.handles) ∙ h

pub more_interfaces : (n : ℕ) (pairs : List (List ℕ × ℕ)) (t : HandleTable) → IsHandleTable t → is_live t n ≡ true → IsHandleTable (with_interfaces n pairs t)
more_interfaces n pairs t h live = record {
  ascending = h.ascending;
  given = h.given;
  limit = h.limit;
  on_live = all_append (λ i. list_any (λ m. nat_eq m i.handle) (numbers t) ≡ true) t.interfaces (stamped n t.last_stamp pairs) h.on_live
      (stamped_on (λ k. list_any (λ m. nat_eq m k) (numbers t)) n t.last_stamp pairs (live_number t n live));
}

with_handle_on_live : (n : ℕ) (ns : List ℕ) (is : List Interface) → AreOn ns is → AreOn (ns ++ n ∷ []) is
with_handle_on_live n ns is a =
    all_map (λ i. list_any (λ m. nat_eq m i.handle) ns ≡ true) (λ i. list_any (λ m. nat_eq m i.handle) (ns ++ n ∷ []) ≡ true) (λ i h. any_push (λ m. nat_eq m i.handle) ns n h) is a

-- a new handle has the number after the last
pub one_more : (maker : Option Pair) (t : HandleTable) → IsHandleTable t → length t.handles < max_handles → IsHandleTable (with_handle maker t)
one_more maker t h room =
    let e : numbers (with_handle maker t) ≡ numbers t ++ (t.last_number + 1) ∷ [] = map_append (λ (x : LiveHandle). x.number) t.handles (record { number = t.last_number + 1; maker = maker } ∷ []) in
    record {
      ascending = rw e (ascending_push (λ a b. a < b) (numbers t) (t.last_number + 1) h.ascending
          (all_map (λ m. (0 < m) × (m ≤ t.last_number)) (λ m. m < t.last_number + 1) (λ m k. omega (arith, k.1)) (numbers t) h.given));
      given = rw e (all_push (λ m. (0 < m) × (m ≤ t.last_number + 1)) (numbers t) (t.last_number + 1)
          (all_map (λ m. (0 < m) × (m ≤ t.last_number)) (λ m. (0 < m) × (m ≤ t.last_number + 1)) (λ m k. (k.0, omega (arith, k.1))) (numbers t) h.given)
          (omega arith, omega arith));
      limit = rw length-append (omega (arith, room));
      on_live = rw e (with_handle_on_live (t.last_number + 1) (numbers t) t.interfaces h.on_live);
    }
