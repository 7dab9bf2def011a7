-- What is asked of a handle table, by how it is kept; and what its changes keep.
use Rattle.std.proofs.Common.{◌≡◌, ◌≢◌, ℕ, zero, suc, ◌+◌, ◌-◌, ◌<◌, ◌≤◌, ◌==◌, nat_eq, not, Bool, true, false, List, [], ◌∷◌, ◌++◌, map, length, Option, Some, None, is_some, inl, inr, refl, sym, ap, ◌∙◌, arith, append-nil, subst}
use Rattle.std.specs.List.{filter, find, list_any, slice_get, AllByRecursion, AllZip}
use Rattle.std.specs.Option.{option_map, option_and_then}
use Rattle.std.proofs.lemmas.Bool.{and_parts, cases_Bool, cases_eq, ne_eqb, eq-eqb}
use Rattle.std.proofs.lemmas.Bool.Decides.{eqb_tells}
use Rattle.std.proofs.lemmas.Option.{same_Some}
use Rattle.std.proofs.lemmas.List.Elements.{same_from_all_zip}
use Rattle.slab.specs.Slab.{IsSlotClone}
use Rattle.guid_handles.specs.declared.records.Interface.{Interface}
use Rattle.guid_handles.specs.declared.records.LiveHandle.{LiveHandle}
use Rattle.guid_handles.specs.declared.records.Pair.{Pair}
use Rattle.guid_handles.specs.declared.records.Record.{Record}
use Rattle.guid_handles.specs.HandleTables.{HandleTable, numbers, same_guid, is_on, is_at, is_live, has_number, carries, holders_of}
use Rattle.guid_handles.specs.HandleChanges.{IsHandleTable, max_handles, is_taken, has_guid_twice, restamped, with_interfaces, with_handle, with_value, without_handle, without_interface}
use Rattle.guid_handles.specs.Sorting.{Ascending}
use Rattle.guid_handles.specs.Indexes.{Row, Group, ChangesKeys, AreOn, AreAbsent, HaveSameStamps, SetsStamp, lives, is_row_of, row_numbers, keys_of, keys_on, stamp_at}
use Rattle.guid_handles.specs.Slots.{at_key, at_keys, is_key_of, record_at, installed_until, with_stamp}
use Rattle.guid_handles.specs.TableSteps.{rewritten}
use Rattle.guid_handles.specs.Stores.{AreApart, HaveInterfaces, IsOrdered, IsStore, IsTable, Replaced, key_at, table_of}
use Rattle.guid_handles.proofs.SortedLists.{all_both, all_numbered, any_none, find_filter, find_map, find_push_other, those_among, filter_same, filter_whole, all_of, all_map, all_filter, any_found, any_last, any_member, filter_map_filter, filter_shorter, map_append, ascending_filter, find_none, found_none}
use Rattle.guid_handles.proofs.Filters.{filter_append, filter_inside, filter_swap, passed}
use Rattle.guid_handles.proofs.GuidOrder.{and_false, same_guid-refl}
use Rattle.guid_handles.proofs.Indexed.{at_guid, at_handle, restamped_guid, restamped_handle}
use Rattle.guid_handles.proofs.Apart.{apart_more, apart_restamped, below_more, below_restamped}
use Rattle.guid_handles.proofs.ProperChanges.{fewer_handles, fewer_interfaces, more_interfaces, one_more, with_stamps}
use Rattle.guid_handles.proofs.Found.{among_own, carried_live, gone_dead, live_is}
use Rattle.guid_handles.proofs.Numbered.{find_lives, keys_mapped, live_numbers, others_mapped, rows_with}
use Rattle.guid_handles.proofs.Slotted.{AreBelow, tagged, until_changed, until_less, until_more}
use Rattle.guid_handles.proofs.Grouped.{is_same, some_map}
use Rattle.guid_handles.proofs.ByGuid.{own_again, stamps_changed, stamps_less, stamps_more}
use Rattle.guid_handles.proofs.Filed.{at_own, found_at, have_long, have_these, filed_changed, filed_less, filed_more, keyed_at, only_one}

-- ---- tables

pub table_without_interface : (t : HandleTable) (n : ℕ) (guid : List ℕ) → IsTable t → IsTable (record t { interfaces = filter (λ i. not (is_at n guid i)) t.interfaces })
table_without_interface t n guid s = record {
  proper = fewer_interfaces (λ i. not (is_at n guid i)) t s.proper;
  apart = ascending_filter AreApart (λ i. not (is_at n guid i)) t.interfaces s.apart;
  below = all_filter (λ i. i.stamp ≤ t.last_stamp) (λ i. not (is_at n guid i)) t.interfaces s.below;
}

table_without_handle : (t : HandleTable) (n : ℕ) → IsTable t → IsTable (without_handle n t)
table_without_handle t n s = record {
  proper = fewer_handles (λ m. not (m == n)) t s.proper;
  apart = ascending_filter AreApart (λ i. not (is_on n i)) t.interfaces s.apart;
  below = all_filter (λ i. i.stamp ≤ t.last_stamp) (λ i. not (is_on n i)) t.interfaces s.below;
}

-- an interface has a value and a new stamp
pub table_replaced : (t : HandleTable) (n : ℕ) (guid : List ℕ) (value : ℕ) → IsTable t → IsTable (with_value n guid value t)
table_replaced t n guid value s =
    let earlier : AllByRecursion (λ i. i.stamp < t.last_stamp + 1) t.interfaces = all_map (λ i. i.stamp ≤ t.last_stamp) (λ i. i.stamp < t.last_stamp + 1) (λ i l. omega (arith, l)) t.interfaces s.below in
    record {
      proper = with_stamps n guid value (t.last_stamp + 1) (t.last_stamp + 1) t s.proper;
      apart = apart_restamped n guid value (t.last_stamp + 1) t.interfaces earlier s.apart;
      below = below_restamped n guid value (t.last_stamp + 1) t.interfaces earlier;
    }

-- with its own value and stamp, and the last stamp of before, the table is as it was
pub as_before : (n : ℕ) (guid : List ℕ) (own : Interface) (last : ℕ) (before after : HandleTable) → Replaced n guid own last before after → rewritten n guid own.value own.stamp last after ≡ before
as_before n guid own last before after r =
    ap (rewritten n guid own.value own.stamp last) r.replaced
    ∙ rw (own_again n guid r.value (before.last_stamp + 1) own before.interfaces r.table.apart r.there, ← r.last) refl

pub still_carried : (n : ℕ) (guid : List ℕ) (own : Interface) (last : ℕ) (before after : HandleTable) → Replaced n guid own last before after → carries after guid n ≡ true
still_carried n guid own last before after r =
    ap (λ (t : HandleTable). carries t guid n) r.replaced
    ∙ ap is_some (find_map (is_at n guid) (restamped n guid r.value (before.last_stamp + 1)) (λ y. rw (restamped_handle n guid r.value (before.last_stamp + 1) y, restamped_guid n guid r.value (before.last_stamp + 1) y) refl) before.interfaces
    ∙ ap (option_map (restamped n guid r.value (before.last_stamp + 1))) r.there)

table_with_interfaces : (t : HandleTable) (n : ℕ) (pairs : List (List ℕ × ℕ)) → IsTable t → is_live t n ≡ true → AreAbsent n pairs t.interfaces → has_guid_twice pairs ≡ false → IsTable (with_interfaces n pairs t)
table_with_interfaces t n pairs s live absent once = record {
  proper = more_interfaces n pairs t s.proper live;
  apart = apart_more n t.last_stamp pairs t.interfaces absent once s.below s.apart;
  below = below_more n t.last_stamp pairs t.interfaces s.below;
}

table_with_handle : (t : HandleTable) (maker : Option Pair) → IsTable t → length t.handles < max_handles → IsTable (with_handle maker t)
table_with_handle t maker s room = record { proper = one_more maker t s.proper room; apart = s.apart; below = s.below }

-- the new handle is live
pub new_is_live : (t : HandleTable) (maker : Option Pair) → is_live (with_handle maker t) (t.last_number + 1) ≡ true
new_is_live t maker = any_found (has_number (t.last_number + 1)) (t.handles ++ record { number = t.last_number + 1; maker = maker } ∷ [])
    ∙ any_last (has_number (t.last_number + 1)) t.handles (record { number = t.last_number + 1; maker = maker }) (eq-eqb (t.last_number + 1) (t.last_number + 1) refl)

-- nothing is on a handle whose number was not given
none_on_new : (t : HandleTable) → IsHandleTable t → (guid : List ℕ) → (is : List Interface) → AreOn (numbers t) is → AllByRecursion (λ i. is_at (t.last_number + 1) guid i ≡ false) is
none_on_new t h guid is a =
    all_map (λ i. list_any (λ m. nat_eq m i.handle) (numbers t) ≡ true) (λ i. is_at (t.last_number + 1) guid i ≡ false)
    (λ i k.
    let l : (0 < i.handle) × (i.handle ≤ t.last_number) = any_member i.handle (numbers t) (λ m. (0 < m) × (m ≤ t.last_number)) h.given k in
    let f : (i.handle == t.last_number + 1) ≡ false = ne_eqb i.handle (t.last_number + 1) (λ e. omega (arith, l.1, e)) in
    rw f refl)
    is a

pub absent_on_new : (t : HandleTable) → IsHandleTable t → (pairs : List (List ℕ × ℕ)) → AreAbsent (t.last_number + 1) pairs t.interfaces
absent_on_new t h [] = tt
absent_on_new t h (p ∷ ps) = (find_none (is_at (t.last_number + 1) p.0) t.interfaces (none_on_new t h p.0 t.interfaces h.on_live), absent_on_new t h ps)

none_found : {X : Type 0} (o : Option X) → is_some o ≡ false → o ≡ None
none_found None h = refl
none_found (Some x) h = cc

pub absent_from : (t : HandleTable) (n : ℕ) (pairs : List (List ℕ × ℕ)) → (n == 0) ≡ false → list_any (λ p. is_taken t n p.0) pairs ≡ false → AreAbsent n pairs t.interfaces
absent_from t n [] z h = tt
absent_from t n (p ∷ ps) z h = elim (cases_Bool (is_taken t n p.0)) [
  | inl e ↦ let k = rw e at h in cc
  | inr e ↦ (none_found (find (is_at n p.0) t.interfaces) (rw z at e), absent_from t n ps z (rw e at h))
]

-- where no interface is on a handle none goes with it
pub none_goes : (n : ℕ) (is : List Interface) → list_any (is_on n) is ≡ false → filter (λ i. not (is_on n i)) is ≡ is
none_goes n [] e = refl
none_goes n (i ∷ is) e = elim (cases_Bool (is_on n i)) [
  | inl t ↦ let w = rw t at e in cc
  | inr f ↦ rw f (ap (λ r. i ∷ r) (none_goes n is (rw f at e)))
]

-- ---- taken back

-- the interface that was installed last goes, and the others stay
without_last : (n : ℕ) (guid : List ℕ) (value : ℕ) (t : HandleTable)
    → filter (λ i. not (is_at n guid i)) (with_interfaces n ((guid, value) ∷ []) t).interfaces ≡ filter (λ i. not (is_at n guid i)) t.interfaces
without_last n guid value t =
    let i : Interface = record { handle = n; guid = guid; value = value; stamp = t.last_stamp + 1 } in
    let own : is_at n guid i ≡ true = rw (eq-eqb n n refl) (same_guid-refl guid) in
    filter_append (λ x. not (is_at n guid x)) t.interfaces (i ∷ []) ∙ rw own (append-nil (filter (λ x. not (is_at n guid x)) t.interfaces))

pub newest_one : (n : ℕ) (guid : List ℕ) (value : ℕ) (t : HandleTable) → AllByRecursion (λ i. i.stamp ≤ t.last_stamp) t.interfaces
    → AllByRecursion (λ i. i.stamp < t.last_stamp + 1) (filter (λ i. not (is_at n guid i)) (with_interfaces n ((guid, value) ∷ []) t).interfaces)
newest_one n guid value t below =
    rw (without_last n guid value t) (all_filter (λ i. i.stamp < t.last_stamp + 1) (λ i. not (is_at n guid i)) t.interfaces
    (all_map (λ i. i.stamp ≤ t.last_stamp) (λ i. i.stamp < t.last_stamp + 1) (λ i l. omega (arith, l)) t.interfaces below))

pub back_again : (n : ℕ) (guid : List ℕ) (value : ℕ) (t : HandleTable) → find (is_at n guid) t.interfaces ≡ None
    → record (with_interfaces n ((guid, value) ∷ []) t) { interfaces = filter (λ i. not (is_at n guid i)) (with_interfaces n ((guid, value) ∷ []) t).interfaces; last_stamp = t.last_stamp + 1 - 1 } ≡ t
back_again n guid value t absent =
    let same : filter (λ i. not (is_at n guid i)) (with_interfaces n ((guid, value) ∷ []) t).interfaces ≡ t.interfaces =
    without_last n guid value t ∙ filter_whole (is_at n guid) t.interfaces (found_none (is_at n guid) t.interfaces absent) in
    let stamp : t.last_stamp + 1 - 1 ≡ t.last_stamp = omega arith in
    rw (same, stamp) refl

pub still_absent : (n : ℕ) (t : HandleTable) (p : List ℕ × ℕ) (ps : List (List ℕ × ℕ)) → AllByRecursion (λ q. same_guid p.0 q.0 ≡ false) ps → AreAbsent n ps t.interfaces → AreAbsent n ps (with_interfaces n (p ∷ []) t).interfaces
still_absent n t p ps d a =
    all_both (λ q. same_guid p.0 q.0 ≡ false) (λ q. find (is_at n q.0) t.interfaces ≡ None) (λ q. find (is_at n q.0) (with_interfaces n (p ∷ []) t).interfaces ≡ None)
    (λ q f e.
    let i : Interface = record { handle = n; guid = p.0; value = p.1; stamp = t.last_stamp + 1 } in
    let other : is_at n q.0 i ≡ false = rw f (and_false (n == n)) in
    find_push_other (is_at n q.0) t.interfaces i other ∙ e) ps d a

pub none_is_on : (t : HandleTable) → IsHandleTable t → list_any (is_on (t.last_number + 1)) t.interfaces ≡ false
none_is_on t h =
    any_none (is_on (t.last_number + 1)) t.interfaces
    (all_map (λ i. list_any (λ m. nat_eq m i.handle) (numbers t) ≡ true) (λ i. is_on (t.last_number + 1) i ≡ false)
    (λ i k.
    let l : (0 < i.handle) × (i.handle ≤ t.last_number) = any_member i.handle (numbers t) (λ m. (0 < m) × (m ≤ t.last_number)) h.given k in
    ne_eqb i.handle (t.last_number + 1) (λ e. omega (arith, l.1, e))) t.interfaces h.on_live)

pub lower_numbers : (t : HandleTable) (maker : Option Pair) → IsHandleTable t → AllByRecursion (λ n. n < t.last_number + 1) (filter (λ n. not (n == t.last_number + 1)) (numbers (with_handle maker t)))
lower_numbers t maker h =
    let own : (t.last_number + 1 == t.last_number + 1) ≡ true = eq-eqb (t.last_number + 1) (t.last_number + 1) refl in
    rw (map_append (λ (x : LiveHandle). x.number) t.handles (record { number = t.last_number + 1; maker = maker } ∷ []), filter_append (λ n. not (n == t.last_number + 1)) (numbers t) ((t.last_number + 1) ∷ []))
    (rw own (rw (append-nil (filter (λ n. not (n == t.last_number + 1)) (numbers t)))
    (all_filter (λ n. n < t.last_number + 1) (λ n. not (n == t.last_number + 1)) (numbers t)
    (all_map (λ m. (0 < m) × (m ≤ t.last_number)) (λ m. m < t.last_number + 1) (λ m k. omega (arith, k.1)) (numbers t) h.given))))

pub unmade_again : (t : HandleTable) (maker : Option Pair) → IsHandleTable t → record (without_handle (t.last_number + 1) (with_handle maker t)) { last_number = t.last_number + 1 - 1 } ≡ t
unmade_again t maker h =
    let own : (t.last_number + 1 == t.last_number + 1) ≡ true = eq-eqb (t.last_number + 1) (t.last_number + 1) refl in
    let handles : filter (λ l. not (has_number (t.last_number + 1) l)) (with_handle maker t).handles ≡ t.handles =
    filter_append (λ l. not (has_number (t.last_number + 1) l)) t.handles (record { number = t.last_number + 1; maker = maker } ∷ [])
    ∙ rw own (append-nil (filter (λ l. not (has_number (t.last_number + 1) l)) t.handles)
    ∙ filter_whole (has_number (t.last_number + 1)) t.handles
    (all_numbered (λ (l : LiveHandle). l.number) (λ m. (0 < m) × (m ≤ t.last_number)) (λ m. (m == t.last_number + 1) ≡ false) (λ m k. ne_eqb m (t.last_number + 1) (λ e. omega (arith, k.1, e))) t.handles h.given)) in
    let number : t.last_number + 1 - 1 ≡ t.last_number = omega arith in
    rw (handles, none_goes (t.last_number + 1) t.interfaces (none_is_on t h), number) refl

-- ---- slots

changed_slot : (n : ℕ) (guid : List ℕ) (value stamp : ℕ) (o : Option Record) → ((r : Record) → o ≡ Some r → is_at n guid r.interface ≡ true)
    → tagged (restamped n guid value stamp) o ≡ tagged (λ i. i) (option_map (with_stamp value stamp) o)
changed_slot n guid value stamp None h = refl
changed_slot n guid value stamp (Some r) h = rw (h r refl) refl

changed_there : (n : ℕ) (guid : List ℕ) (value stamp : ℕ) (o : Option Record) → ((r : Record) → o ≡ Some r → is_at n guid r.interface ≡ true) → (x : Interface) → option_map (λ r. r.interface) o ≡ Some x
    → option_map (λ r. r.interface) (option_map (with_stamp value stamp) o) ≡ Some (restamped n guid value stamp x)
changed_there n guid value stamp None h x e = absurd cc
changed_there n guid value stamp (Some r) h x e =
    let t : is_at n guid x ≡ true = subst (λ (i : Interface). is_at n guid i ≡ true) (same_Some r.interface x e) (h r refl) in
    rw t (ap (λ (i : Interface). Some (record i { value = value; stamp = stamp })) (same_Some r.interface x e))

new_there : (n : ℕ) (guid : List ℕ) (value stamp : ℕ) (o : Option Record) → ((r : Record) → o ≡ Some r → is_at n guid r.interface ≡ true) → (y : Interface)
    → option_map (λ r. r.interface) (option_map (with_stamp value stamp) o) ≡ Some y → is_at n guid y ≡ true
new_there n guid value stamp None h y e = absurd cc
new_there n guid value stamp (Some r) h y e = subst (λ (i : Interface). is_at n guid i ≡ true) (same_Some (record r.interface { value = value; stamp = stamp }) y e) (h r refl)

from_slot : (stamp value : ℕ) (o : Option Record) → (r : Record) → option_map (with_stamp value stamp) o ≡ Some r → (p : Record) × (o ≡ Some p) × (p.installed ≡ r.installed)
from_slot stamp value None r e = absurd cc
from_slot stamp value (Some p) r e = (p, refl, ap (λ (x : Record). x.installed) (same_Some (with_stamp value stamp p) r e))

pub any_counted : (p : Interface → Bool) (xs : List Interface) → not (length (filter p xs) == 0) ≡ list_any p xs
any_counted p [] = refl
any_counted p (x ∷ xs) = elim (cases_Bool (p x)) [
  | inl t ↦ let f : (suc (length (filter p xs)) == 0) ≡ false = ne_eqb (suc (length (filter p xs))) 0 (λ e. omega (arith, e)) in rw t (rw f refl)
  | inr f ↦ rw f (any_counted p xs)
]

-- ---- interfaces on a handle go one by one

pub first_goes : (n : ℕ) (guid : List ℕ) (t : HandleTable) → without_handle n (record t { interfaces = filter (λ i. not (is_at n guid i)) t.interfaces }) ≡ without_handle n t
first_goes n guid t =
    ap (λ is. record t { handles = filter (λ h. not (has_number n h)) t.handles; interfaces = is })
    (filter_inside (λ i. not (is_at n guid i)) (λ i. not (is_on n i)) (λ i p. elim (cases_Bool (is_on n i)) [
      | inl e ↦ let w = rw e at p in cc
      | inr e ↦ rw e refl
    ]) t.interfaces)

pub first_fewer : (n : ℕ) (is : List Interface) (i : Interface) → slice_get (filter (is_on n) is) 0 ≡ Some i → length (filter (is_on n) (filter (λ x. not (is_at n i.guid x)) is)) ≤ length (filter (is_on n) is) - 1
first_fewer n is i e = rw (filter_swap (is_on n) (λ x. not (is_at n i.guid x)) is) (one (filter (is_on n) is) (passed (is_on n) is) e)
  where
    one : (xs : List Interface) → AllByRecursion (λ x. is_on n x ≡ true) xs → slice_get xs 0 ≡ Some i → length (filter (λ x. not (is_at n i.guid x)) xs) ≤ length xs - 1
    one [] a k = absurd cc
    one (x ∷ xs) a k =
        let t : is_at n i.guid x ≡ true = rw (same_Some x i k) (rw (rw (same_Some x i k) at a.0) (same_guid-refl i.guid)) in
        rw t (omega (arith, filter_shorter (λ y. not (is_at n i.guid y)) xs))

pub none_fewer : (xs : List Interface) → slice_get xs 0 ≡ None → length xs ≤ length xs - 1
none_fewer [] e = omega arith
none_fewer (x ∷ xs) e = absurd cc

pub some_on : (p : Interface → Bool) (xs : List Interface) → list_any p xs ≡ true → 0 < length (filter p xs)
some_on p xs e = positive (length (filter p xs)) (any_counted p xs ∙ e)
  where
    positive : (n : ℕ) → not (n == 0) ≡ true → 0 < n
    positive zero h = absurd cc
    positive (suc n) h = omega arith

-- clones of slots are the same slots
pub same_slots : (old new : List (Option Record)) → AllZip (IsSlotClone (λ r s. s ≡ r)) old new → new ≡ old
same_slots old new a = same_from_all_zip (IsSlotClone (λ r s. s ≡ r)) old new a same_slot
  where
    same_slot : (o p : Option Record) → IsSlotClone (λ r s. s ≡ r) o p → p ≡ o
    same_slot None p e = e
    same_slot (Some r) None e = absurd e
    same_slot (Some r) (Some s) e = ap (λ x. Some x) e

-- keys of rows once a handle comes or goes
keys_push : (rows : List Row) (live : LiveHandle) (m : ℕ) → keys_on (rows ++ record { live = live; keys = [] } ∷ []) m ≡ keys_on rows m
keys_push [] live m = elim (cases_Bool (has_number m live)) [
  | inl t ↦ rw t refl
  | inr f ↦ rw f refl
]
keys_push (r ∷ rs) live m = elim (cases_Bool (is_row_of m r)) [
  | inl t ↦ rw t refl
  | inr f ↦ rw f (keys_push rs live m)
]

keys_without : (rows : List Row) (n m : ℕ) → keys_on rows n ≡ [] → keys_on (filter (λ r. not (is_row_of n r)) rows) m ≡ keys_on rows m
keys_without rows n m e =
    ap keys_of (find_filter (is_row_of m) (λ r. not (is_row_of n r)) (not (m == n)) (λ r t. rw (is_same r.live.number m t) refl) rows)
    ∙ elim (eqb_tells m n) [
      | inl t ↦ rw t.0 (sym (ap (keys_on rows) t.1 ∙ e))
      | inr f ↦ rw f.0 refl
    ]

-- nothing is kept at first
pub empty_store : IsStore [] [] [] 0 0 0
empty_store = record {
  table = record {
    proper = record { ascending = tt; given = tt; limit = omega arith; on_live = tt };
    apart = tt;
    below = tt;
  };
  filed = record { by_handle = λ n. tt; in_row = λ key i e. absurd cc };
  stamps = λ guid n. refl;
  ordered = λ key r e. absurd cc;
}

-- ---- what is asked

module _ (rows : List Row) (slots : List (Option Record)) (groups : List Group) (number stamp order : ℕ) (s : IsStore rows slots groups number stamp order) where
  -- the interface at its key is the one that is asked for
  pub stored_at : (n : ℕ) (guid : List ℕ) → find (is_at n guid) (installed_until order slots) ≡ option_and_then (at_key slots) (key_at slots rows guid n)
  stored_at n guid = found_at (installed_until order slots) slots rows s.filed n guid

  slots_below : AreBelow order slots
  slots_below j r e = (s.ordered j r e).1

  -- an interface that is not there has no key
  pub unkeyed : (n : ℕ) (guid : List ℕ) → find (is_at n guid) (installed_until order slots) ≡ None → key_at slots rows guid n ≡ None
  unkeyed n guid e = none (key_at slots rows guid n) refl
    where
      none : (o : Option ℕ) → key_at slots rows guid n ≡ o → o ≡ None
      none None k = refl
      none (Some key) k =
          let f = at_own (installed_until order slots) slots rows n guid key s.filed k in
          let w : Some f.0 ≡ None = sym (stored_at n guid ∙ ap (option_and_then (at_key slots)) k ∙ f.1) ∙ e in cc

  -- nor has it a stamp
  pub unstamped : (n : ℕ) (guid : List ℕ) → find (is_at n guid) (installed_until order slots) ≡ None → stamp_at groups guid n ≡ None
  unstamped n guid e = s.stamps guid n ∙ ap (option_map (λ (i : Interface). i.stamp)) e

  -- the handles of a GUID are those that have a stamp in its group
  pub by_guid : (guid hs : List ℕ) → Ascending (λ a b. a < b) hs → ((n : ℕ) → list_any (λ h. h == n) hs ≡ is_some (stamp_at groups guid n)) → hs ≡ holders_of (table_of rows slots number stamp order) guid
  by_guid guid hs ascending those =
      let t : HandleTable = table_of rows slots number stamp order in
      let returned : (n : ℕ) → list_any (λ h. h == n) hs ≡ carries t guid n =
      λ n. those n ∙ ap is_some (s.stamps guid n) ∙ some_map (λ (i : Interface). i.stamp) (find (is_at n guid) (installed_until order slots)) in
      sym (filter_same (carries t guid) (λ n. list_any (λ h. h == n) hs) (numbers t) (all_of (λ n. carries t guid n ≡ list_any (λ h. h == n) hs) (λ n. sym (returned n)) (numbers t))
      ∙ those_among (numbers t) hs s.table.proper.ascending ascending
      (all_map (λ h. list_any (λ k. nat_eq k h) hs ≡ true) (λ h. list_any (λ n. nat_eq n h) (numbers t) ≡ true)
      (λ h m. sym (live_is t h) ∙ carried_live t s.table.proper guid h (sym (returned h) ∙ m)) hs (among_own hs)))

  -- ---- changes

  -- the interfaces at the keys of a handle
  pub carried_at : (n : ℕ) → HaveInterfaces slots (keys_on rows n) (filter (is_on n) (installed_until order slots))
  carried_at n = s.filed.by_handle n

  pub carried_these : (n : ℕ) → at_keys slots (keys_on rows n) ≡ filter (is_on n) (installed_until order slots)
  carried_these n = have_these slots (keys_on rows n) (filter (is_on n) (installed_until order slots)) (carried_at n)

  -- keys are left in the row of a handle where an interface is on it
  pub left_on : (n : ℕ) → not (length (keys_on rows n) == 0) ≡ list_any (is_on n) (installed_until order slots)
  left_on n =
      rw (have_long slots (keys_on rows n) (filter (is_on n) (installed_until order slots)) (carried_at n))
      (any_counted (is_on n) (installed_until order slots))

  at_others : (new : List (Option Record)) (key : ℕ) → ((j : ℕ) → j ≢ key → record_at new j ≡ record_at slots j) → (j : ℕ) → j ≢ key → at_key new j ≡ at_key slots j
  at_others new key others j d = ap (option_map (λ r. r.interface)) (others j d)

  -- an interface comes
  pub stored_more : (rs : List Row) (new : List (Option Record)) (gs : List Group) (n : ℕ) (guid : List ℕ) (value key : ℕ)
      → is_live (table_of rows slots number stamp order) n ≡ true → find (is_at n guid) (installed_until order slots) ≡ None
      → record_at slots key ≡ None
      → record_at new key ≡ Some (record { interface = record { handle = n; guid = guid; value = value; stamp = stamp + 1 }; installed = order + 1 })
      → ((j : ℕ) → j ≢ key → record_at new j ≡ record_at slots j)
      → ChangesKeys n (λ ks. ks ++ key ∷ []) rows rs
      → SetsStamp guid n (Some (stamp + 1)) groups gs
      → (table_of rs new number (stamp + 1) (order + 1) ≡ with_interfaces n ((guid, value) ∷ []) (table_of rows slots number stamp order)) × IsStore rs new gs number (stamp + 1) (order + 1)
  stored_more rs new gs n guid value key live absent none there others c g =
      let i : Interface = record { handle = n; guid = guid; value = value; stamp = stamp + 1 } in
      let more : installed_until (order + 1) new ≡ installed_until order slots ++ i ∷ [] =
      until_more order key slots new (record { interface = i; installed = order + 1 }) slots_below refl none there others in
      let same : table_of rs new number (stamp + 1) (order + 1) ≡ with_interfaces n ((guid, value) ∷ []) (table_of rows slots number stamp order) = rw (c.lives, more) refl in (
        same,
        record {
          table = subst IsTable (sym same) (table_with_interfaces (table_of rows slots number stamp order) n ((guid, value) ∷ []) s.table live (absent, tt) refl);
          filed = rw more (filed_more (installed_until order slots) slots new rows rs key i (ap (option_map (λ r. r.interface)) none) (ap (option_map (λ r. r.interface)) there)
              (at_others new key others) c (unkeyed n guid absent) s.filed);
          stamps = rw more (stamps_more (installed_until order slots) groups gs i absent g s.stamps);
          ordered = λ j r e. elim (cases_eq j key) [
            | inl w ↦ subst (IsOrdered (order + 1)) (same_Some (record { interface = i; installed = order + 1 }) r (sym there ∙ ap (record_at new) (sym w) ∙ e)) (omega arith, omega arith)
            | inr d ↦ let b = s.ordered j r (sym (others j d) ∙ e) in (b.0, omega (arith, b.1))
          ];
        },
      )

  -- the interface at the key of a GUID on a handle is of it, and no other is
  own_key : (n : ℕ) (guid : List ℕ) (key : ℕ) → key_at slots rows guid n ≡ Some key → (r : Record) → record_at slots key ≡ Some r → is_at n guid r.interface ≡ true
  own_key n guid key there r e = keyed_at (installed_until order slots) slots rows n guid key s.filed there r.interface (ap (option_map (λ (x : Record). x.interface)) e)

  other_key : (n : ℕ) (guid : List ℕ) (key : ℕ) → key_at slots rows guid n ≡ Some key → (j : ℕ) (r : Record) → j ≢ key → record_at slots j ≡ Some r → is_at n guid r.interface ≡ false
  other_key n guid key there j r d e = only_one (installed_until order slots) slots rows n guid key s.filed there j r.interface d (ap (option_map (λ (x : Record). x.interface)) e)

  -- the interface at a key is found by its GUID and its handle
  pub keyed_record : (n : ℕ) (guid : List ℕ) (key : ℕ) → key_at slots rows guid n ≡ Some key → (r : Record) → record_at slots key ≡ Some r → find (is_at n guid) (installed_until order slots) ≡ Some r.interface
  keyed_record n guid key there r e = stored_at n guid ∙ ap (option_and_then (at_key slots)) there ∙ ap (option_map (λ (x : Record). x.interface)) e

  -- a key is that of a record
  recorded : (n : ℕ) (guid : List ℕ) (key : ℕ) → key_at slots rows guid n ≡ Some key → (r : Record) × (record_at slots key ≡ Some r)
  recorded n guid key there =
      let f = at_own (installed_until order slots) slots rows n guid key s.filed there in
      of_interface (record_at slots key) f.0 f.1
    where
      of_interface : (o : Option Record) (i : Interface) → option_map (λ r. r.interface) o ≡ Some i → (r : Record) × (o ≡ Some r)
      of_interface None i e = absurd cc
      of_interface (Some r) i e = (r, refl)

  pub is_recorded : (n : ℕ) (guid : List ℕ) (key : ℕ) → key_at slots rows guid n ≡ Some key → is_some (record_at slots key) ≡ true
  is_recorded n guid key there = ap is_some (recorded n guid key there).1

  -- and the interface has a stamp
  pub has_stamp : (n : ℕ) (guid : List ℕ) (key : ℕ) → key_at slots rows guid n ≡ Some key → is_some (stamp_at groups guid n) ≡ true
  has_stamp n guid key there =
      let r = recorded n guid key there in
      ap is_some (s.stamps guid n ∙ ap (option_map (λ (i : Interface). i.stamp)) (keyed_record n guid key there r.0 r.1))

  -- an interface goes
  pub stored_less : (rs : List Row) (new : List (Option Record)) (gs : List Group) (n : ℕ) (guid : List ℕ) (key : ℕ) → key_at slots rows guid n ≡ Some key
      → record_at new key ≡ None
      → ((j : ℕ) → j ≢ key → record_at new j ≡ record_at slots j)
      → ChangesKeys n (filter (λ k. not (k == key))) rows rs
      → SetsStamp guid n None groups gs
      → (table_of rs new number stamp order ≡ record (table_of rows slots number stamp order) { interfaces = filter (λ i. not (is_at n guid i)) (installed_until order slots) }) × IsStore rs new gs number stamp order
  stored_less rs new gs n guid key there none others c g =
      let q : Interface → Bool = λ i. not (is_at n guid i) in
      let less : installed_until order new ≡ filter q (installed_until order slots) =
      until_less q order key slots new (λ r e. rw (own_key n guid key there r e) refl) (λ j r d e. rw (other_key n guid key there j r d e) refl) none others in
      let same : table_of rs new number stamp order ≡ record (table_of rows slots number stamp order) { interfaces = filter q (installed_until order slots) } = rw (c.lives, less) refl in (
        same,
        record {
          table = subst IsTable (sym same) (table_without_interface (table_of rows slots number stamp order) n guid s.table);
          filed = rw less (filed_less (installed_until order slots) slots new rows rs n guid key there (ap (option_map (λ r. r.interface)) none) (at_others new key others) c s.filed);
          stamps = rw less (stamps_less (installed_until order slots) groups gs n guid g s.stamps);
          ordered = λ j r e. elim (cases_eq j key) [
            | inl w ↦ let z : Some r ≡ None = sym e ∙ ap (record_at new) w ∙ none in cc
            | inr d ↦ s.ordered j r (sym (others j d) ∙ e)
          ];
        },
      )

  -- where no interface is of the GUID on the handle none goes
  pub stored_none : (n : ℕ) (guid : List ℕ) → key_at slots rows guid n ≡ None → installed_until order slots ≡ filter (λ i. not (is_at n guid i)) (installed_until order slots)
  stored_none n guid none =
      sym (filter_whole (is_at n guid) (installed_until order slots) (found_none (is_at n guid) (installed_until order slots) (stored_at n guid ∙ ap (option_and_then (at_key slots)) none)))

  -- an interface takes a value and a stamp, and a stamp is the last
  pub stored_rewritten : (new : List (Option Record)) (gs : List Group) (n : ℕ) (guid : List ℕ) (value to last key : ℕ) → IsTable (rewritten n guid value to last (table_of rows slots number stamp order))
      → key_at slots rows guid n ≡ Some key
      → record_at new key ≡ option_map (with_stamp value to) (record_at slots key) → ((j : ℕ) → j ≢ key → record_at new j ≡ record_at slots j)
      → SetsStamp guid n (Some to) groups gs
      → (table_of rows new number last order ≡ rewritten n guid value to last (table_of rows slots number stamp order)) × IsStore rows new gs number last order
  stored_rewritten new gs n guid value to last key table there own others g =
      let x = recorded n guid key there in
      let f : Interface → Interface = restamped n guid value to in
      let kept : (j : ℕ) (r : Record) → record_at new j ≡ Some r → (p : Record) × (record_at slots j ≡ Some p) × (p.installed ≡ r.installed) =
      λ j r e. elim (cases_eq j key) [
        | inl w ↦ rw w (from_slot to value (record_at slots key) r (sym own ∙ ap (record_at new) (sym w) ∙ e))
        | inr d ↦ (r, sym (others j d) ∙ e, refl)
      ] in
      let changed : installed_until order new ≡ map f (installed_until order slots) =
      until_changed f order key slots new (changed_slot n guid value to (record_at slots key) (λ r e. own_key n guid key there r e) ∙ ap (tagged (λ i. i)) (sym own))
      (λ j r d e. rw (other_key n guid key there j r d e) refl) others in
      let same : table_of rows new number last order ≡ rewritten n guid value to last (table_of rows slots number stamp order) = rw changed refl in (
        same,
        record {
          table = subst IsTable (sym same) table;
          filed = rw changed (filed_changed (installed_until order slots) slots new rows n guid value to key there
              (λ y e. ap (option_map (λ r. r.interface)) own ∙ changed_there n guid value to (record_at slots key) (λ r k. own_key n guid key there r k) y e)
              (λ y e. new_there n guid value to (record_at slots key) (λ r k. own_key n guid key there r k) y (sym (ap (option_map (λ r. r.interface)) own) ∙ e))
              (at_others new key others) s.filed);
          stamps = rw changed (stamps_changed (installed_until order slots) groups gs n guid value to x.0.interface (keyed_record n guid key there x.0 x.1) g s.stamps);
          ordered = λ j r e. let k = kept j r e in let b = s.ordered j k.0 k.1 in (omega (arith, b.0, k.2), omega (arith, b.1, k.2));
        },
      )

  -- ---- handles

  pub numbers_below : AllByRecursion (λ n. n < number + 1) (row_numbers rows)
  numbers_below =
      subst (AllByRecursion (λ n. n < number + 1)) (live_numbers rows)
      (all_map (λ m. (0 < m) × (m ≤ number)) (λ m. m < number + 1) (λ m h. omega (arith, h.1)) (map (λ h. h.number) (lives rows)) s.table.proper.given)

  pub live_row : (n : ℕ) → is_live (table_of rows slots number stamp order) n ≡ true → is_some (find (is_row_of n) rows) ≡ true
  live_row n l = sym (ap is_some (find_lives n rows) ∙ some_map (λ r. r.live) (find (is_row_of n) rows)) ∙ l

  -- a handle comes
  pub stored_handle : (maker : Option Pair) → length (lives rows) < max_handles
      → (table_of (rows ++ record { live = record { number = number + 1; maker = maker }; keys = [] } ∷ []) slots (number + 1) stamp order ≡ with_handle maker (table_of rows slots number stamp order))
      × IsStore (rows ++ record { live = record { number = number + 1; maker = maker }; keys = [] } ∷ []) slots groups (number + 1) stamp order
  stored_handle maker room =
      let live : LiveHandle = record { number = number + 1; maker = maker } in
      let same : table_of (rows ++ record { live = live; keys = [] } ∷ []) slots (number + 1) stamp order ≡ with_handle maker (table_of rows slots number stamp order) =
      rw (map_append (λ r. r.live) rows (record { live = live; keys = [] } ∷ [])) refl in (
        same,
        record {
          table = subst IsTable (sym same) (table_with_handle (table_of rows slots number stamp order) maker s.table room);
          filed = record { by_handle = λ n. rw (keys_push rows live n) (s.filed.by_handle n); in_row = λ key i e. ap (find (is_key_of slots i.guid)) (keys_push rows live i.handle) ∙ s.filed.in_row key i e };
          stamps = s.stamps;
          ordered = s.ordered;
        },
      )

  bare_keys : (n : ℕ) → list_any (is_on n) (installed_until order slots) ≡ false → keys_on rows n ≡ []
  bare_keys n b = no_keys (keys_on rows n) (none_of_them (installed_until order slots) b) (s.filed.by_handle n)
    where
      none_of_them : (is : List Interface) → list_any (is_on n) is ≡ false → filter (is_on n) is ≡ []
      none_of_them [] e = refl
      none_of_them (i ∷ is) e = elim (cases_Bool (is_on n i)) [
        | inl t ↦ let w = rw t at e in cc
        | inr f ↦ rw f (none_of_them is (rw f at e))
      ]

      no_keys : {xs : List Interface} (ks : List ℕ) → xs ≡ [] → HaveInterfaces slots ks xs → ks ≡ []
      no_keys [] e h = refl
      no_keys (k ∷ ks) e h = absurd (rw e at h)

  -- a handle without interfaces goes
  pub stored_bare : (n : ℕ) → list_any (is_on n) (installed_until order slots) ≡ false
      → (table_of (filter (λ r. not (is_row_of n r)) rows) slots number stamp order ≡ without_handle n (table_of rows slots number stamp order)) × IsStore (filter (λ r. not (is_row_of n r)) rows) slots groups number stamp order
  stored_bare n bare =
      let left : lives (filter (λ r. not (is_row_of n r)) rows) ≡ filter (λ h. not (has_number n h)) (lives rows) = filter_map_filter (λ r. r.live) (λ h. not (has_number n h)) rows in
      let same : table_of (filter (λ r. not (is_row_of n r)) rows) slots number stamp order ≡ without_handle n (table_of rows slots number stamp order) = rw (left, none_goes n (installed_until order slots) bare) refl in (
        same,
        record {
          table = subst IsTable (sym same) (table_without_handle (table_of rows slots number stamp order) n s.table);
          filed = record {
            by_handle = λ m. rw (keys_without rows n m (bare_keys n bare)) (s.filed.by_handle m);
            in_row = λ key i e. ap (find (is_key_of slots i.guid)) (keys_without rows n i.handle (bare_keys n bare)) ∙ s.filed.in_row key i e;
          };
          stamps = s.stamps;
          ordered = s.ordered;
        },
      )

  -- ---- taken back

  -- the last number is given again, if no handle has it
  pub stored_unmade : (last : ℕ) → AllByRecursion (λ n. n ≤ last) (map (λ h. h.number) (lives rows)) → IsStore rows slots groups last stamp order
  stored_unmade last below = record {
    table = record {
      proper = record {
        ascending = s.table.proper.ascending;
        given = all_both (λ m. (0 < m) × (m ≤ number)) (λ m. m ≤ last) (λ m. (0 < m) × (m ≤ last)) (λ m h l. (h.0, l)) (map (λ h. h.number) (lives rows)) s.table.proper.given below;
        limit = s.table.proper.limit;
        on_live = s.table.proper.on_live;
      };
      apart = s.table.apart;
      below = s.table.below;
    };
    filed = s.filed;
    stamps = s.stamps;
    ordered = s.ordered;
  }

  -- a stamp is the last again, if no interface has a later one
  pub stored_back : (last : ℕ) → AllByRecursion (λ i. i.stamp ≤ last) (installed_until order slots) → IsStore rows slots groups number last order
  stored_back last below = record {
    table = record {
      proper = record { ascending = s.table.proper.ascending; given = s.table.proper.given; limit = s.table.proper.limit; on_live = s.table.proper.on_live };
      apart = s.table.apart;
      below = below;
    };
    filed = s.filed;
    stamps = s.stamps;
    ordered = s.ordered;
  }

  -- ---- by the tables before

  pub unmade : (t : HandleTable) → table_of rows slots number stamp order ≡ without_handle t.last_number t → AllByRecursion (λ n. n < t.last_number) (filter (λ n. not (n == t.last_number)) (numbers t))
      → IsStore rows slots groups (number - 1) stamp order
  unmade t e below =
      let last : number ≡ t.last_number = ap (λ (x : HandleTable). x.last_number) e in
      let left : map (λ h. h.number) (lives rows) ≡ filter (λ n. not (n == t.last_number)) (numbers t) =
      ap (λ (x : HandleTable). numbers x) e ∙ filter_map_filter (λ (h : LiveHandle). h.number) (λ n. not (n == t.last_number)) t.handles in
      stored_unmade (number - 1) (rw left (all_map (λ n. n < t.last_number) (λ n. n ≤ number - 1) (λ n l. omega (arith, l, last)) (filter (λ n. not (n == t.last_number)) (numbers t)) below))

  pub taken_back : (t : HandleTable) (is : List Interface) → table_of rows slots number stamp order ≡ record t { interfaces = is } → AllByRecursion (λ i. i.stamp < t.last_stamp) is → 0 < t.last_stamp
      → (table_of rows slots number (stamp - 1) order ≡ record t { interfaces = is; last_stamp = t.last_stamp - 1 }) × IsStore rows slots groups number (stamp - 1) order
  taken_back t is e below some =
      let last : stamp ≡ t.last_stamp = ap (λ (x : HandleTable). x.last_stamp) e in
      let these : installed_until order slots ≡ is = ap (λ (x : HandleTable). x.interfaces) e in (
        ap (λ (x : HandleTable). record x { last_stamp = x.last_stamp - 1 }) e,
        stored_back (stamp - 1) (rw these (all_map (λ i. i.stamp < t.last_stamp) (λ i. i.stamp ≤ stamp - 1) (λ i l. omega (arith, l, last)) is below)),
      )

  -- groups with the same stamps
  pub stored_same : (gs : List Group) → HaveSameStamps groups gs → IsStore rows slots gs number stamp order
  stored_same gs g = record {
    table = s.table;
    filed = s.filed;
    stamps = λ guid n. g guid n ∙ s.stamps guid n;
    ordered = s.ordered;
  }

  pub stored_kept : (n : ℕ) (guid : List ℕ) → key_at slots rows guid n ≡ None → table_of rows slots number stamp order ≡ record (table_of rows slots number stamp order) { interfaces = filter (λ i. not (is_at n guid i)) (installed_until order slots) }
  stored_kept n guid none = ap (λ is. record (table_of rows slots number stamp order) { interfaces = is }) (stored_none n guid none)

  pub uncarried : (n : ℕ) (guid : List ℕ) → key_at slots rows guid n ≡ None → carries (table_of rows slots number stamp order) guid n ≡ true → ⊥
  uncarried n guid none h = let w : false ≡ true = sym (ap is_some (stored_at n guid ∙ ap (option_and_then (at_key slots)) none)) ∙ h in cc

-- ---- an interface goes, and with the last one its handle

-- a handle of more than one interface, with one of them gone
pub others_left : (n : ℕ) (guid : List ℕ) (is : List Interface) → Ascending AreApart is → is_some (find (is_at n guid) is) ≡ true → length (filter (is_on n) is) ≢ 1 → list_any (is_on n) (filter (λ i. not (is_at n guid i)) is) ≡ true
others_left n guid [] a s d = absurd cc
others_left n guid (j ∷ js) a s d = elim (cases_Bool (is_at n guid j)) [
  | inl t ↦
      let on : is_on n j ≡ true = (and_parts (is_on n j) (same_guid j.guid guid) t).0 in
      let whole : filter (λ i. not (is_at n guid i)) js ≡ js = filter_whole (is_at n guid) js (all_map (AreApart j) (λ k. is_at n guid k ≡ false) (λ k x. apart_from k x.0 t) js a.0) in
      let more : list_any (is_on n) js ≡ true = elim (cases_Bool (list_any (is_on n) js)) [
        | inl y ↦ y
        | inr z ↦ absurd (rw on at d (one (length (filter (is_on n) js)) (any_counted (is_on n) js ∙ z)))
      ] in
      rw t (rw whole more)
  | inr f ↦ elim (cases_Bool (is_on n j)) [
    | inl y ↦ rw f (rw y refl)
    | inr z ↦ rw f (rw z (others_left n guid js a.1 (rw f at s) (rw z at d)))
  ]
]
  where
    one : (k : ℕ) → not (k == 0) ≡ false → suc k ≡ 1
    one zero h = refl
    one (suc k) h =
        let e : (suc k == 0) ≡ false = ne_eqb (suc k) 0 (λ w. omega (arith, w)) in
        let w : true ≡ false = rw e at h in cc

    apart_from : (k : Interface) → is_at k.handle k.guid j ≡ false → is_at n guid j ≡ true → is_at n guid k ≡ false
    apart_from k x t = elim (cases_Bool (is_at n guid k)) [
      | inl u ↦
          let f : is_at n guid j ≡ false = subst (λ (g : List ℕ). is_at n g j ≡ false) (at_guid n guid k u) (subst (λ (m : ℕ). is_at m k.guid j ≡ false) (at_handle n guid k u) x) in
          let w : true ≡ false = sym t ∙ f in cc
      | inr u ↦ u
    ]

pub still_on : (rows : List Row) (slots : List (Option Record)) (groups : List Group) (number stamp order : ℕ) → IsStore rows slots groups number stamp order → (n : ℕ) (guid : List ℕ) → length (keys_on rows n) ≢ 1
    → carries (table_of rows slots number stamp order) guid n ≡ true
    → (list_any (is_on n) (filter (λ i. not (is_at n guid i)) (installed_until order slots)) ≡ true) × (is_live (table_of rows slots number stamp order) n ≡ true)
still_on rows slots groups number stamp order s n guid d h = (
  others_left n guid (installed_until order slots) s.table.apart h (subst (λ (k : ℕ). k ≢ 1) (have_long slots (keys_on rows n) (filter (is_on n) (installed_until order slots)) (s.filed.by_handle n)) d),
  carried_live (table_of rows slots number stamp order) s.table.proper guid n h,
)

-- the only key of a handle that carries a GUID is that of the GUID
pub key_of_last : (rows : List Row) (slots : List (Option Record)) (groups : List Group) (number stamp order : ℕ) → IsStore rows slots groups number stamp order → (n : ℕ) (guid : List ℕ) (key : ℕ) → keys_on rows n ≡ key ∷ []
    → carries (table_of rows slots number stamp order) guid n ≡ true → key_at slots rows guid n ≡ Some key
key_of_last rows slots groups number stamp order s n guid key only h = elim (cases_Bool (is_key_of slots guid key)) [
  | inl t ↦ rw only (rw t refl)
  | inr f ↦
      let none : key_at slots rows guid n ≡ None = rw only (rw f refl) in
      absurd (uncarried rows slots groups number stamp order s n guid none h)
]

-- the only interface on a handle goes, and the handle with it
pub stored_last : (rows : List Row) (slots new : List (Option Record)) (groups gs : List Group) (number stamp order n : ℕ) (guid : List ℕ) (key : ℕ) → IsStore rows slots groups number stamp order → keys_on rows n ≡ key ∷ []
    → carries (table_of rows slots number stamp order) guid n ≡ true → record_at new key ≡ None → ((j : ℕ) → j ≢ key → record_at new j ≡ record_at slots j) → SetsStamp guid n None groups gs
    → (table_of (filter (λ r. not (is_row_of n r)) rows) new number stamp order ≡ without_interface n guid (table_of rows slots number stamp order)) × IsStore (filter (λ r. not (is_row_of n r)) rows) new gs number stamp order
    × (is_live (table_of (filter (λ r. not (is_row_of n r)) rows) new number stamp order) n ≡ false)
stored_last rows slots new groups gs number stamp order n guid key s only h none others g =
    let f : List ℕ → List ℕ = filter (λ k. not (k == key)) in
    let rs = rows_with n f rows in
    let c = keys_mapped n f rows refl in
    let there = key_of_last rows slots groups number stamp order s n guid key only h in
    let less = stored_less rows slots groups number stamp order s rs new gs n guid key there none others c g in
    let gone : keys_on rs n ≡ [] = c.keys n ∙ rw (eq-eqb n n refl, only) (rw (eq-eqb key key refl) refl) in
    let bare : list_any (is_on n) (installed_until order new) ≡ false = sym (left_on rs new gs number stamp order less.1 n) ∙ ap (λ ks. not (length ks == 0)) gone in
    let rest = stored_bare rs new gs number stamp order less.1 n bare in
    let unheld : list_any (is_on n) (filter (λ i. not (is_at n guid i)) (installed_until order slots)) ≡ false = ap (λ (t : HandleTable). list_any (is_on n) t.interfaces) (sym less.0) ∙ bare in
    let same = others_mapped n f rows in (
      rw unheld (subst (λ (xs : List Row). table_of xs new number stamp order ≡ without_handle n (record (table_of rows slots number stamp order) { interfaces = filter (λ i. not (is_at n guid i)) (installed_until order slots) })) same (rest.0 ∙ ap (without_handle n) less.0)),
      subst (λ (xs : List Row). IsStore xs new gs number stamp order) same rest.1,
      subst (λ (xs : List Row). is_live (table_of xs new number stamp order) n ≡ false) same (ap (λ (t : HandleTable). is_live t n) rest.0 ∙ gone_dead (table_of rs new number stamp order) n),
    )
