-- What is found carries the GUID that was asked for, and is live.
use Rattle.std.proofs.Common.{◌≡◌, ℕ, ◌&&◌, ◌||◌, nat_eq, nat_lt, not, Bool, true, false, List, [], ◌∷◌, Option, Some, None, is_some, inl, inr, refl, sym, ◌∙◌, subst}
use Rattle.std.specs.List.{filter, find, list_any, AllByRecursion}
use Rattle.std.specs.Option.{option_map}
use Rattle.std.proofs.lemmas.Bool.{cases_Bool, and_parts, eq-eqb}
use Rattle.std.proofs.lemmas.Bool.Decides.{eqb_tells}
use Rattle.std.proofs.lemmas.Option.{same_Some}
use Rattle.guid_handles.specs.declared.records.Interface.{Interface}
use Rattle.guid_handles.specs.declared.records.LiveHandle.{LiveHandle}
use Rattle.guid_handles.specs.HandleTables.{HandleTable, numbers, has_number, is_of, is_on, is_at, is_live, interface_at, carries, holders_of, earlier_of, earliest, next_after}
use Rattle.guid_handles.specs.HandleChanges.{IsHandleTable, without_handle}
use Rattle.guid_handles.proofs.SortedLists.{all_map, all_filtered, any_found, any_map}
use Rattle.guid_handles.proofs.Indexed.{at_handle}

-- ---- each interface of a GUID is found by its handle

or_later : (a b : Bool) → b ≡ true → (a || b) ≡ true
or_later true b h = refl
or_later false b h = h

listed : (guid : List ℕ) (is : List Interface) → AllByRecursion (λ i. is_of guid i ≡ true → list_any (is_at i.handle guid) is ≡ true) is
listed guid [] = tt
listed guid (x ∷ xs) = (
  λ e. rw (eq-eqb x.handle x.handle refl, e) refl,
  all_map (λ i. is_of guid i ≡ true → list_any (is_at i.handle guid) xs ≡ true) (λ i. is_of guid i ≡ true → list_any (is_at i.handle guid) (x ∷ xs) ≡ true)
      (λ i h e. or_later (is_at i.handle guid x) (list_any (is_at i.handle guid) xs) (h e)) xs (listed guid xs),
)

pub interfaces_carried : (t : HandleTable) (guid : List ℕ) → AllByRecursion (λ i. is_of guid i ≡ true → carries t guid i.handle ≡ true) t.interfaces
interfaces_carried t guid =
    all_map (λ i. is_of guid i ≡ true → list_any (is_at i.handle guid) t.interfaces ≡ true) (λ i. is_of guid i ≡ true → carries t guid i.handle ≡ true)
    (λ i h e. any_found (is_at i.handle guid) t.interfaces ∙ h e) t.interfaces (listed guid t.interfaces)

-- ---- the next interface by stamps

earlier_one : (P : Interface → Type 0) (i : Interface) (o : Option Interface) (n : Interface) → P i → (o ≡ Some n → P n) → earlier_of i o ≡ Some n → P n
earlier_one P i None n p f e = subst P (same_Some i n e) p
earlier_one P i (Some j) n p f e = elim (cases_Bool (nat_lt j.stamp i.stamp)) [
  | inl l ↦ f (rw l at e)
  | inr l ↦ subst P (same_Some i n (rw l at e)) p
]

-- what holds of some interfaces holds of the one with the least stamp
pub earliest_one : (P : Interface → Type 0) (is : List Interface) (n : Interface) → AllByRecursion P is → earliest is ≡ Some n → P n
earliest_one P [] n a e = cc
earliest_one P (i ∷ is) n a e = earlier_one P i (earliest is) n a.0 (earliest_one P is n a.1) e

returned_of : (P : ℕ → Type 0) (o : Option Interface) (n : ℕ × ℕ) → ((i : Interface) → o ≡ Some i → P i.handle) → option_map (λ i. (i.handle, i.stamp)) o ≡ Some n → P n.0
returned_of P None n f e = absurd cc
returned_of P (Some i) n f e = subst (λ (m : ℕ × ℕ). P m.0) (same_Some (i.handle, i.stamp) n e) (f i refl)

-- the next handle carries the GUID
pub next_carries : (t : HandleTable) (guid : List ℕ) (mark : ℕ) (n : ℕ × ℕ) → next_after t guid mark ≡ Some n → carries t guid n.0 ≡ true
next_carries t guid mark n e =
    let after : Interface → Bool = λ i. is_of guid i && nat_lt mark i.stamp in
    let all : AllByRecursion (λ i. carries t guid i.handle ≡ true) (filter after t.interfaces) =
    all_filtered (λ i. carries t guid i.handle ≡ true) (λ i. is_of guid i ≡ true → carries t guid i.handle ≡ true) after
    (λ i p h. h (and_parts (is_of guid i) (nat_lt mark i.stamp) p).0) t.interfaces (interfaces_carried t guid) in
    returned_of (λ m. carries t guid m ≡ true) (earliest (filter after t.interfaces)) n (λ i s. earliest_one (λ j. carries t guid j.handle ≡ true) (filter after t.interfaces) i all s) e

-- ---- the handles of a GUID

passed : {X : Type 0} (p : X → Bool) (xs : List X) → AllByRecursion (λ x. p x ≡ true) (filter p xs)
passed p [] = tt
passed p (x ∷ xs) = elim (cases_Bool (p x)) [
  | inl e ↦ rw e (e, passed p xs)
  | inr e ↦ rw e (passed p xs)
]

pub holders_carry : (t : HandleTable) (guid : List ℕ) → AllByRecursion (λ n. carries t guid n ≡ true) (holders_of t guid)
holders_carry t guid = passed (carries t guid) (numbers t)

-- ---- live handles

-- a number is live just where it is among the numbers
pub live_is : (t : HandleTable) (n : ℕ) → is_live t n ≡ list_any (λ m. nat_eq m n) (numbers t)
live_is t n = any_found (has_number n) t.handles ∙ sym (any_map (λ (l : LiveHandle). l.number) (λ m. nat_eq m n) t.handles)

pub among_own : (ns : List ℕ) → AllByRecursion (λ n. list_any (λ m. nat_eq m n) ns ≡ true) ns
among_own [] = tt
among_own (x ∷ xs) = (
  rw (eq-eqb x x refl) refl,
  all_map (λ n. list_any (λ m. nat_eq m n) xs ≡ true) (λ n. list_any (λ m. nat_eq m n) (x ∷ xs) ≡ true) (λ n h. or_later (nat_eq x n) (list_any (λ m. nat_eq m n) xs) h) xs (among_own xs),
)

pub numbers_live : (t : HandleTable) → AllByRecursion (λ n. is_live t n ≡ true) (numbers t)
numbers_live t = all_map (λ n. list_any (λ m. nat_eq m n) (numbers t) ≡ true) (λ n. is_live t n ≡ true) (λ n h. live_is t n ∙ h) (numbers t) (among_own (numbers t))

-- each interface of a proper table is on a live handle
pub interfaces_live : (t : HandleTable) → IsHandleTable t → AllByRecursion (λ i. is_live t i.handle ≡ true) t.interfaces
interfaces_live t h = all_map (λ i. list_any (λ m. nat_eq m i.handle) (numbers t) ≡ true) (λ i. is_live t i.handle ≡ true) (λ i k. live_is t i.handle ∙ k) t.interfaces h.on_live

-- a handle that carries an interface is live
pub carrier_live : (t : HandleTable) → IsHandleTable t → (n : ℕ) → list_any (is_on n) t.interfaces ≡ true → is_live t n ≡ true
carrier_live t h n e = one t.interfaces (interfaces_live t h) e
  where
    one : (is : List Interface) → AllByRecursion (λ i. is_live t i.handle ≡ true) is → list_any (is_on n) is ≡ true → is_live t n ≡ true
    one [] a k = absurd cc
    one (i ∷ is) a k = elim (eqb_tells i.handle n) [
      | inl s ↦ subst (λ (m : ℕ). is_live t m ≡ true) s.1 a.0
      | inr f ↦ one is a.1 (rw f.0 at k)
    ]

-- a handle that was taken out is not
pub gone_dead : (t : HandleTable) (n : ℕ) → is_live (without_handle n t) n ≡ false
gone_dead t n = none t.handles
  where
    none : (hs : List LiveHandle) → is_some (find (has_number n) (filter (λ h. not (has_number n h)) hs)) ≡ false
    none [] = refl
    none (h ∷ hs) = elim (cases_Bool (has_number n h)) [
      | inl k ↦ rw k (none hs)
      | inr k ↦ rw k (rw k (none hs))
    ]

pub found_one : (P : Interface → Type 0) (p : Interface → Bool) (is : List Interface) (i : Interface) → AllByRecursion P is → find p is ≡ Some i → (p i ≡ true) × P i
found_one P p [] i a e = absurd cc
found_one P p (x ∷ xs) i a e = elim (cases_Bool (p x)) [
  | inl k ↦ subst (λ (y : Interface). (p y ≡ true) × P y) (same_Some x i (rw k at e)) (k, a.0)
  | inr k ↦ found_one P p xs i a.1 (rw k at e)
]

-- the interface that is found is of the GUID, and its handle is live
pub interface_live : (t : HandleTable) → IsHandleTable t → (n : ℕ) (guid : List ℕ) (i : Interface) → interface_at t n guid ≡ Some i → (i.handle ≡ n) × (is_live t n ≡ true)
interface_live t h n guid i e =
    let f = found_one (λ (j : Interface). is_live t j.handle ≡ true) (is_at n guid) t.interfaces i (interfaces_live t h) e in
    let s = at_handle n guid i f.0 in
    (s, subst (λ (m : ℕ). is_live t m ≡ true) s f.1)

live_if : (t : HandleTable) → IsHandleTable t → (n : ℕ) (guid : List ℕ) (o : Option Interface) → interface_at t n guid ≡ o → is_some o ≡ true → is_live t n ≡ true
live_if t h n guid None e s = absurd cc
live_if t h n guid (Some i) e s = (interface_live t h n guid i e).1

-- a handle that carries a GUID is live
pub carried_live : (t : HandleTable) → IsHandleTable t → (guid : List ℕ) (n : ℕ) → carries t guid n ≡ true → is_live t n ≡ true
carried_live t h guid n c = live_if t h n guid (interface_at t n guid) refl c
