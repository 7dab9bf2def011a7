-- Handles above a number go, the last one first, and that number and a stamp are the last again.
use Rattle.std.proofs.Common.{◌≡◌, ℕ, suc, ◌-◌, ◌<◌, ◌≤◌, ◌==◌, nat_eq, nat_le, not, Bool, true, List, [], ◌∷◌, map, length, Option, Some, inl, inr, refl, ap, arith}
use Rattle.std.specs.List.{filter, list_any, slice_get, AllByRecursion}
use Rattle.std.proofs.lemmas.Bool.{cases_Bool, ne_eqb, leb-true, le-leb}
use Rattle.std.proofs.lemmas.Option.{same_Some}
use Rattle.guid_handles.specs.declared.records.Interface.{Interface}
use Rattle.guid_handles.specs.declared.records.LiveHandle.{LiveHandle}
use Rattle.guid_handles.specs.declared.records.Record.{Record}
use Rattle.guid_handles.specs.HandleTables.{HandleTable, numbers, is_on, has_number}
use Rattle.guid_handles.specs.HandleChanges.{IsHandleTable, without_handle}
use Rattle.guid_handles.specs.Sorting.{Ascending}
use Rattle.guid_handles.specs.Indexes.{Row, Group, lives}
use Rattle.guid_handles.specs.Slots.{installed_until}
use Rattle.guid_handles.specs.Stores.{IsStore, table_of}
use Rattle.guid_handles.specs.TableSteps.{AreOlder, taken_back_to, without_above}
use Rattle.guid_handles.proofs.SortedLists.{all_map, all_under, any_member, filter_shorter}
use Rattle.guid_handles.proofs.Filters.{filter_inside}
use Rattle.guid_handles.proofs.Stored.{stored_back, stored_unmade}

-- ---- the last of ascending numbers

pub last_highest : (n : ℕ) (ns : List ℕ) (l : ℕ) → Ascending (λ a b. a < b) ns → slice_get ns (length ns - 1) ≡ Some l → l ≤ n → AllByRecursion (λ k. k ≤ n) ns
last_highest n [] l a e b = tt
last_highest n (x ∷ []) l a e b = (omega (arith, same_Some x l e, b), tt)
last_highest n (x ∷ y ∷ ys) l a e b =
    let i : length (x ∷ y ∷ ys) - 1 ≡ suc (length (y ∷ ys) - 1) = omega arith in
    let rest = last_highest n (y ∷ ys) l a.1 (rw i at e) b in
    (omega (arith, a.0.0, rest.0), rest)

-- ---- one handle goes

-- a handle above the number may go first
pub still_above : (n m : ℕ) (t : HandleTable) → n < m → without_above n (without_handle m t) ≡ without_above n t
still_above n m t l =
    let handles : filter (λ h. nat_le h.number n) (filter (λ h. not (has_number m h)) t.handles) ≡ filter (λ h. nat_le h.number n) t.handles =
    filter_inside (λ h. not (has_number m h)) (λ h. nat_le h.number n) (λ h e. ap not (ne_eqb h.number m (λ w. omega (arith, leb-true h.number n e, w, l)))) t.handles in
    let interfaces : filter (λ i. nat_le i.handle n) (filter (λ i. not (is_on m i)) t.interfaces) ≡ filter (λ i. nat_le i.handle n) t.interfaces =
    filter_inside (λ i. not (is_on m i)) (λ i. nat_le i.handle n) (λ i e. ap not (ne_eqb i.handle m (λ w. omega (arith, leb-true i.handle n e, w, l)))) t.interfaces in
    rw (handles, interfaces) refl

-- then there are fewer
pub fewer_handles : (m : ℕ) (hs : List LiveHandle) → list_any (λ k. k == m) (map (λ h. h.number) hs) ≡ true → length (filter (λ h. not (has_number m h)) hs) < length hs
fewer_handles m [] e = absurd cc
fewer_handles m (h ∷ hs) e = elim (cases_Bool (h.number == m)) [
  | inl t ↦ rw t (omega (arith, filter_shorter (λ x. not (has_number m x)) hs))
  | inr f ↦ rw f (omega (arith, fewer_handles m hs (rw f at e)))
]

filter_all : {X : Type 0} (p : X → Bool) (xs : List X) → AllByRecursion (λ x. p x ≡ true) xs → filter p xs ≡ xs
filter_all p [] h = refl
filter_all p (x ∷ xs) h = rw h.0 (ap (λ r. x ∷ r) (filter_all p xs h.1))

-- where none is above the number, none goes
pub none_above : (n : ℕ) (t : HandleTable) → IsHandleTable t → AllByRecursion (λ k. k ≤ n) (numbers t) → t ≡ without_above n t
none_above n t h a =
    let handles : filter (λ (x : LiveHandle). nat_le x.number n) t.handles ≡ t.handles =
    filter_all (λ (x : LiveHandle). nat_le x.number n) t.handles
    (all_map (λ (x : LiveHandle). x.number ≤ n) (λ x. nat_le x.number n ≡ true) (λ x l. le-leb x.number n l) t.handles (all_under (λ (x : LiveHandle). x.number) (λ k. k ≤ n) t.handles a)) in
    let interfaces : filter (λ (i : Interface). nat_le i.handle n) t.interfaces ≡ t.interfaces =
    filter_all (λ (i : Interface). nat_le i.handle n) t.interfaces
    (all_map (λ (i : Interface). list_any (λ m. nat_eq m i.handle) (numbers t) ≡ true) (λ i. nat_le i.handle n ≡ true) (λ i e. le-leb i.handle n (any_member i.handle (numbers t) (λ k. k ≤ n) a e)) t.interfaces h.on_live) in
    rw (handles, interfaces) refl

-- ---- how the table is kept

those_lower : (n : ℕ) (hs : List LiveHandle) → AllByRecursion (λ k. k ≤ n) (map (λ (h : LiveHandle). h.number) (filter (λ h. nat_le h.number n) hs))
those_lower n [] = tt
those_lower n (h ∷ hs) = elim (cases_Bool (nat_le h.number n)) [
  | inl t ↦ rw t (leb-true h.number n t, those_lower n hs)
  | inr f ↦ rw f (those_lower n hs)
]

module _ (rows : List Row) (slots : List (Option Record)) (groups : List Group) (number stamp order : ℕ) (s : IsStore rows slots groups number stamp order) where
  -- a number and a stamp are the last again, if no handle and no interface has a later one
  pub taken_back_to_mark : (t : HandleTable) (n last : ℕ) → table_of rows slots number stamp order ≡ without_above n t → AreOlder n last t
      → (table_of rows slots n last order ≡ taken_back_to n last t) × IsStore rows slots groups n last order
  taken_back_to_mark t n last e older =
      let these : installed_until order slots ≡ (without_above n t).interfaces = ap (λ (x : HandleTable). x.interfaces) e in
      let those : lives rows ≡ filter (λ h. nat_le h.number n) t.handles = ap (λ (x : HandleTable). x.handles) e in
      let lower : AllByRecursion (λ k. k ≤ n) (map (λ h. h.number) (lives rows)) = rw those (those_lower n t.handles) in (
        ap (λ (x : HandleTable). record x { last_number = n; last_stamp = last }) e,
        stored_back rows slots groups n stamp order (stored_unmade rows slots groups number stamp order s n lower) last (rw these older),
      )
