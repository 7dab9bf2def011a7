-- Changes of a handle table that keep it proper, and which handles stay live.
use Rattle.std.proofs.Common.{◌≡◌, ℕ, ◌+◌, ◌<◌, ◌≤◌, ◌==◌, nat_lt, not, Bool, true, false, List, [], ◌∷◌, ◌++◌, length, Option, Some, None, is_some, inl, inr, refl, sym, ap, ◌∙◌, subst, append-nil, arith, length-append}
use Rattle.std.specs.List.{filter, list_any, list_all}
use Rattle.std.proofs.lemmas.Bool.{cases_Bool, ltb-true}
use Rattle.std.proofs.lemmas.Bool.Decides.{eqb_tells}
use Rattle.guid_handles.specs.declared.records.Interface.{Interface}
use Rattle.guid_handles.specs.declared.records.LiveHandle.{LiveHandle}
use Rattle.guid_handles.specs.declared.records.Pair.{Pair}
use Rattle.guid_handles.specs.HandleTables.{HandleTable, is_on, is_at, is_live, has_number}
use Rattle.guid_handles.specs.HandleChanges.{IsHandleTable, max_handles, has_guid_twice, installed, is_dead, is_taken, past_limit, restamped, stamped, unless_bare, with_handle, with_interfaces, with_value, without_interface}
use Rattle.guid_handles.specs.Indexes.{AreAbsent}
use Rattle.guid_handles.specs.Sorting.{Ascending}
use Rattle.guid_handles.proofs.SortedLists.{any_found, any_push, filter_shorter, ascending_filter, ascending_map, ascending_push, find_filter, found_none}
use Rattle.guid_handles.proofs.Indexed.{restamped_handle, restamped_guid}
use Rattle.guid_handles.proofs.ProperChanges.{fewer_handles, fewer_interfaces, filtered, more_interfaces, one_more, with_stamps}
use Rattle.guid_handles.proofs.Stored.{absent_from, absent_on_new, new_is_live}
use Rattle.driver_connect.specs.Starting.{is_child, with_child, with_children}
use Rattle.protocol_services.specs.ProperLists.{AreApart}
use Rattle.protocol_services.proofs.NewInterfaces.{next_added}

-- a handle table with no more handles than may be live, and no GUID twice on a handle
pub record IsProperTable (t : HandleTable) : Type 0 where
  pub table : IsHandleTable t
  pub limit : length t.handles ≤ max_handles
  pub guids : Ascending AreApart t.interfaces

-- ---- fewer

same_number : (n : ℕ) (p : ℕ → Bool) → p n ≡ true → (l : LiveHandle) → has_number n l ≡ true → p l.number ≡ true
same_number n p h l e = elim (eqb_tells l.number n) [
  | inl t ↦ rw t.1 h
  | inr f ↦ absurd (let k : false ≡ true = sym f.0 ∙ e in cc)
]

-- a handle that passes stays live
pub live_filtered : (p : ℕ → Bool) (t : HandleTable) (n : ℕ) → is_live t n ≡ true → p n ≡ true → is_live (filtered p t) n ≡ true
live_filtered p t n h k = ap is_some (find_filter (has_number n) (λ l. p l.number) true (same_number n p k) t.handles) ∙ h

pub filtered_proper : (p : ℕ → Bool) (t : HandleTable) → IsProperTable t → IsProperTable (filtered p t)
filtered_proper p t s = record {
  table = fewer_handles p t s.table;
  limit = omega (arith, s.limit, filter_shorter (λ h. p h.number) t.handles);
  guids = ascending_filter AreApart (λ i. p i.handle) t.interfaces s.guids;
}

pub fewer_proper : (p : Interface → Bool) (t : HandleTable) → IsProperTable t → IsProperTable (record t { interfaces = filter p t.interfaces })
fewer_proper p t s = record {
  table = fewer_interfaces p t s.table;
  limit = s.limit;
  guids = ascending_filter AreApart p t.interfaces s.guids;
}

bare_proper : (n : ℕ) (t : HandleTable) → IsProperTable t → IsProperTable (unless_bare n t)
bare_proper n t s = elim (cases_Bool (list_any (is_on n) t.interfaces)) [
  | inl e ↦ rw e s
  | inr e ↦ rw e (filtered_proper (λ m. not (m == n)) t s)
]

pub without_interface_proper : (n : ℕ) (guid : List ℕ) (t : HandleTable) → IsProperTable t → IsProperTable (without_interface n guid t)
without_interface_proper n guid t s = bare_proper n (record t { interfaces = filter (λ i. not (is_at n guid i)) t.interfaces }) (fewer_proper (λ i. not (is_at n guid i)) t s)

-- another handle stays live
pub other_live : (n : ℕ) (guid : List ℕ) (t : HandleTable) (m : ℕ) → is_live t m ≡ true → (m == n) ≡ false → is_live (without_interface n guid t) m ≡ true
other_live n guid t m h d = elim (cases_Bool (list_any (is_on n) (filter (λ i. not (is_at n guid i)) t.interfaces))) [
  | inl e ↦ rw e h
  | inr e ↦ rw e (live_filtered (λ k. not (k == n)) t m h (ap not d))
]

-- ---- changed

restamped_apart : (n : ℕ) (guid : List ℕ) (value stamp : ℕ) (i j : Interface) → AreApart i j → AreApart (restamped n guid value stamp i) (restamped n guid value stamp j)
restamped_apart n guid value stamp i j h =
    rw (restamped_handle n guid value stamp i) (rw (restamped_guid n guid value stamp i) (rw (restamped_handle n guid value stamp j) (rw (restamped_guid n guid value stamp j) h)))

pub with_value_proper : (n : ℕ) (guid : List ℕ) (value : ℕ) (t : HandleTable) → IsProperTable t → IsProperTable (with_value n guid value t)
with_value_proper n guid value t s = record {
  table = with_stamps n guid value (t.last_stamp + 1) (t.last_stamp + 1) t s.table;
  limit = s.limit;
  guids = ascending_map AreApart AreApart (restamped n guid value (t.last_stamp + 1)) (restamped_apart n guid value (t.last_stamp + 1)) t.interfaces s.guids;
}

-- ---- more

appended_one : {X : Type 0} (xs : List X) (y : X) (ys : List X) → (xs ++ y ∷ []) ++ ys ≡ xs ++ y ∷ ys
appended_one [] y ys = refl
appended_one (x ∷ xs) y ys = ap (λ r. x ∷ r) (appended_one xs y ys)

-- pairs whose GUIDs are not there, each once, come apart
stamped_apart : (n stamp : ℕ) (pairs : List (List ℕ × ℕ)) (is : List Interface) → Ascending AreApart is → AreAbsent n pairs is → has_guid_twice pairs ≡ false → Ascending AreApart (is ++ stamped n stamp pairs)
stamped_apart n stamp [] is s a h = subst (Ascending AreApart) (sym (append-nil is)) s
stamped_apart n stamp (p ∷ ps) is s a h =
    let i : Interface = record { handle = n; guid = p.0; value = p.1; stamp = stamp + 1 } in
    let r = next_added n p ps p.1 (stamp + 1) is a h in
    let one : Ascending AreApart (is ++ i ∷ []) = ascending_push AreApart is i s (found_none (is_at n p.0) is r.absent) in
    subst (Ascending AreApart) (appended_one is i (stamped n (stamp + 1) ps)) (stamped_apart n (stamp + 1) ps (is ++ i ∷ []) one r.others r.once)

pub with_interfaces_proper : (n : ℕ) (pairs : List (List ℕ × ℕ)) (t : HandleTable) → IsProperTable t → is_live t n ≡ true → AreAbsent n pairs t.interfaces → has_guid_twice pairs ≡ false
    → IsProperTable (with_interfaces n pairs t)
with_interfaces_proper n pairs t s live absent once = record {
  table = more_interfaces n pairs t s.table live;
  limit = s.limit;
  guids = stamped_apart n t.last_stamp pairs t.interfaces s.guids absent once;
}

pub with_handle_proper : (maker : Option Pair) (t : HandleTable) → IsProperTable t → length t.handles < max_handles → IsProperTable (with_handle maker t)
with_handle_proper maker t s room = record {
  table = one_more maker t s.table room;
  limit = rw length-append (omega (arith, room));
  guids = s.guids;
}

-- handles stay live beside a new one
pub live_beside : (maker : Option Pair) (t : HandleTable) (n : ℕ) → is_live t n ≡ true → is_live (with_handle maker t) n ≡ true
live_beside maker t n h =
    any_found (has_number n) (t.handles ++ record { number = t.last_number + 1; maker = maker } ∷ [])
    ∙ any_push (has_number n) t.handles (record { number = t.last_number + 1; maker = maker }) (sym (any_found (has_number n) t.handles) ∙ h)

-- a new handle with interfaces on it
new_proper : (maker : Option Pair) (pairs : List (List ℕ × ℕ)) (t : HandleTable) → IsProperTable t → length t.handles < max_handles → has_guid_twice pairs ≡ false
    → IsProperTable (with_interfaces (t.last_number + 1) pairs (with_handle maker t))
new_proper maker pairs t s room once =
    with_interfaces_proper (t.last_number + 1) pairs (with_handle maker t) (with_handle_proper maker t s room) (new_is_live t maker) (absent_on_new t s.table pairs) once

-- ---- installing

pub installed_live : (handle : ℕ) (pairs : List (List ℕ × ℕ)) (t : HandleTable) (n : ℕ) → is_live t n ≡ true → is_live (installed handle pairs t) n ≡ true
installed_live handle pairs t n h = elim (cases_Bool (handle == 0)) [
  | inl e ↦ rw e (live_beside None t n h)
  | inr e ↦ rw e h
]

pub not_dead : (t : HandleTable) (n : ℕ) → (n == 0) ≡ false → is_dead t n ≡ false → is_live t n ≡ true
not_dead t n z h = elim (cases_Bool (is_live t n)) [
  | inl e ↦ e
  | inr e ↦ let k = rw e at (rw z at h) in cc
]

pub installed_proper : (handle : ℕ) (pairs : List (List ℕ × ℕ)) (t : HandleTable) → IsProperTable t → is_dead t handle ≡ false → list_any (λ p. is_taken t handle p.0) pairs ≡ false
    → has_guid_twice pairs ≡ false → past_limit t handle ≡ false → IsProperTable (installed handle pairs t)
installed_proper handle pairs t s dead taken once limit = elim (cases_Bool (handle == 0)) [
  | inl e ↦
      let room : nat_lt (length t.handles) max_handles ≡ true = elim (cases_Bool (nat_lt (length t.handles) max_handles)) [
        | inl l ↦ l
        | inr l ↦ absurd (let k = rw l at (rw e at limit) in cc)
      ] in
      rw e (new_proper None pairs t s (ltb-true (length t.handles) max_handles room) once)
  | inr e ↦ rw e (with_interfaces_proper handle pairs t s (not_dead t handle e dead) (absent_from t handle pairs e taken) once)
]

-- ---- children

pub children_live : (maker : Pair) (children : List (List (List ℕ × ℕ))) (t : HandleTable) (n : ℕ) → is_live t n ≡ true → is_live (with_children maker children t) n ≡ true
children_live maker [] t n h = h
children_live maker (pairs ∷ children) t n h = children_live maker children (with_child maker pairs t) n (live_beside (Some maker) t n h)

child_once : (pairs : List (List ℕ × ℕ)) → is_child pairs ≡ true → has_guid_twice pairs ≡ false
child_once pairs h = elim (cases_Bool (has_guid_twice pairs)) [
  | inr e ↦ e
  | inl e ↦ absurd (let k = rw e at h in elim (cases_Bool (length pairs == 0)) [
    | inl z ↦ let m = rw z at k in cc
    | inr z ↦ let m = rw z at k in cc
  ])
]

pub children_proper : (maker : Pair) (children : List (List (List ℕ × ℕ))) (t : HandleTable) → IsProperTable t → list_all is_child children ≡ true → length t.handles + length children ≤ max_handles
    → IsProperTable (with_children maker children t)
children_proper maker [] t s h l = s
children_proper maker (pairs ∷ children) t s h l = elim (cases_Bool (is_child pairs)) [
  | inl e ↦
      let room : length t.handles < max_handles = omega (arith, l) in
      let n : length (with_child maker pairs t).handles ≡ length t.handles + 1 = length-append t.handles (record { number = t.last_number + 1; maker = Some maker } ∷ []) in
      children_proper maker children (with_child maker pairs t) (new_proper (Some maker) pairs t s room (child_once pairs e)) (rw e at h) (omega (arith, l, n))
  | inr e ↦ absurd (let k = rw e at h in cc)
]
