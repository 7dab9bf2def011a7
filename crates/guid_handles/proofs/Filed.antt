-- What keeps rows in step with the interfaces in slots.
use Rattle.std.proofs.Common.{add-one, get_or, take, ◌+◌, ◌<◌, ◌≡◌, ◌≢◌, ℕ, zero, suc, length, arith, ◌==◌, ◌&&◌, not, Bool, true, false, cond, List, [], ◌∷◌, ◌++◌, map, Option, Some, None, is_some, inl, inr, refl, sym, ap, ◌∙◌, append-nil, subst}
use Rattle.std.specs.List.{filter, find, slice_get, AllByRecursion}
use Rattle.std.specs.Option.{option_to_list, option_and_then}
use Rattle.std.proofs.lemmas.Bool.{cases_Bool, cases_eq, eq-eqb, ne_eqb}
use Rattle.std.proofs.lemmas.Option.{same_Some}
use Rattle.guid_handles.specs.declared.records.Interface.{Interface}
use Rattle.guid_handles.specs.declared.records.Record.{Record}
use Rattle.guid_handles.specs.HandleTables.{same_guid, is_on, is_of, is_at}
use Rattle.guid_handles.specs.HandleChanges.{restamped}
use Rattle.guid_handles.specs.Indexes.{Row, ChangesKeys, keys_on}
use Rattle.guid_handles.specs.Sorting.{kept_if}
use Rattle.guid_handles.specs.Slots.{at_key, at_keys, is_key_of}
use Rattle.guid_handles.specs.Stores.{HaveInterfaces, AreFiled, key_at}
use Rattle.guid_handles.proofs.SortedLists.{all_of, find_push_new}
use Rattle.guid_handles.proofs.Filters.{filter_swap, filter_inside, filter_append, filter_changed, passed}
use Rattle.guid_handles.proofs.GuidOrder.{same_guid-refl}
use Rattle.guid_handles.proofs.Indexed.{at_handle, at_guid, turned, guid_turned, restamped_handle, restamped_guid}
use Rattle.guid_handles.proofs.Grouped.{is_same}

-- ---- keys beside interfaces

-- where each key has what it had, changed
have_changed : (old new : List (Option Record)) (P : Interface → Type 0) (f : Interface → Interface) → ((k : ℕ) (x : Interface) → at_key old k ≡ Some x → P x → at_key new k ≡ Some (f x))
    → (ks : List ℕ) (xs : List Interface) → AllByRecursion P xs → HaveInterfaces old ks xs → HaveInterfaces new ks (map f xs)
have_changed old new P f g [] [] a h = tt
have_changed old new P f g [] (x ∷ xs) a h = absurd h
have_changed old new P f g (k ∷ ks) [] a h = absurd h
have_changed old new P f g (k ∷ ks) (x ∷ xs) a h = (g k x h.0 a.0, have_changed old new P f g ks xs a.1 h.1)

have_kept : (old new : List (Option Record)) (P : Interface → Type 0) → ((k : ℕ) (x : Interface) → at_key old k ≡ Some x → P x → at_key new k ≡ Some x)
    → (ks : List ℕ) (xs : List Interface) → AllByRecursion P xs → HaveInterfaces old ks xs → HaveInterfaces new ks xs
have_kept old new P g [] [] a h = tt
have_kept old new P g [] (x ∷ xs) a h = absurd h
have_kept old new P g (k ∷ ks) [] a h = absurd h
have_kept old new P g (k ∷ ks) (x ∷ xs) a h = (g k x h.0 a.0, have_kept old new P g ks xs a.1 h.1)

have_more : (slots : List (Option Record)) (ks : List ℕ) (xs : List Interface) (k : ℕ) (x : Interface) → HaveInterfaces slots ks xs → at_key slots k ≡ Some x → HaveInterfaces slots (ks ++ k ∷ []) (xs ++ x ∷ [])
have_more slots [] [] k x h e = (e, tt)
have_more slots [] (y ∷ ys) k x h e = absurd h
have_more slots (j ∷ js) [] k x h e = absurd h
have_more slots (j ∷ js) (y ∷ ys) k x h e = (h.0, have_more slots js ys k x h.1 e)

-- the one key of those that fail a test goes
have_less : (old new : List (Option Record)) (key : ℕ) (q : Interface → Bool) → ((x : Interface) → at_key old key ≡ Some x → q x ≡ false)
    → ((k : ℕ) (x : Interface) → k ≢ key → at_key old k ≡ Some x → (q x ≡ true) × (at_key new k ≡ Some x))
    → (ks : List ℕ) (xs : List Interface) → HaveInterfaces old ks xs → HaveInterfaces new (filter (λ k. not (k == key)) ks) (filter q xs)
have_less old new key q own rest [] [] h = tt
have_less old new key q own rest [] (x ∷ xs) h = absurd h
have_less old new key q own rest (k ∷ ks) [] h = absurd h
have_less old new key q own rest (k ∷ ks) (x ∷ xs) h = elim (cases_eq k key) [
  | inl e ↦
      let f : q x ≡ false = own x (ap (at_key old) (sym e) ∙ h.0) in
      rw (eq-eqb k key e) (rw f (have_less old new key q own rest ks xs h.1))
  | inr d ↦
      let r = rest k x d h.0 in
      rw (ne_eqb k key d) (rw r.0 (r.1, have_less old new key q own rest ks xs h.1))
]

-- the interfaces at keys
pub have_these : (slots : List (Option Record)) (ks : List ℕ) (xs : List Interface) → HaveInterfaces slots ks xs → at_keys slots ks ≡ xs
have_these slots [] [] h = refl
have_these slots [] (x ∷ xs) h = absurd h
have_these slots (k ∷ ks) [] h = absurd h
have_these slots (k ∷ ks) (x ∷ xs) h = rw h.0 (ap (λ r. x ∷ r) (have_these slots ks xs h.1))

-- one key more
pub keys_next : (slots : List (Option Record)) (ks : List ℕ) (k d : ℕ) → k < length ks → at_keys slots (take (k + 1) ks) ≡ at_keys slots (take k ks) ++ option_to_list (at_key slots (get_or ks k d))
keys_next slots ks k d l = rw add-one (next ks k l)
  where
    single : (y : ℕ) (o : Option Interface) → at_key slots y ≡ o → at_keys slots (y ∷ []) ≡ option_to_list (at_key slots y)
    single y None e = rw e refl
    single y (Some i) e = rw e refl

    after : (y : ℕ) (js ks : List ℕ) (is : List Interface) (o : Option Interface) → at_key slots y ≡ o → at_keys slots js ≡ at_keys slots ks ++ is → at_keys slots (y ∷ js) ≡ at_keys slots (y ∷ ks) ++ is
    after y js ks is None e h = rw e h
    after y js ks is (Some i) e h = rw e (ap (λ r. i ∷ r) h)

    next : (ks : List ℕ) (k : ℕ) → k < length ks → at_keys slots (take (suc k) ks) ≡ at_keys slots (take k ks) ++ option_to_list (at_key slots (get_or ks k d))
    next [] k l = absurd (omega (arith, l))
    next (y ∷ ys) zero l = single y (at_key slots y) refl
    next (y ∷ ys) (suc k) l = after y (take (suc k) ys) (take k ys) (option_to_list (at_key slots (get_or ys k d))) (at_key slots y) refl (next ys k (omega (arith, l)))

pub have_long : (slots : List (Option Record)) (ks : List ℕ) (xs : List Interface) → HaveInterfaces slots ks xs → length ks ≡ length xs
have_long slots [] [] h = refl
have_long slots [] (x ∷ xs) h = absurd h
have_long slots (k ∷ ks) [] h = absurd h
have_long slots (k ∷ ks) (x ∷ xs) h = omega (arith, have_long slots ks xs h.1)

pub have_nth : (slots : List (Option Record)) (ks : List ℕ) (xs : List Interface) (at : ℕ) → HaveInterfaces slots ks xs → option_and_then (at_key slots) (slice_get ks at) ≡ slice_get xs at
have_nth slots [] [] zero h = refl
have_nth slots [] [] (suc at) h = refl
have_nth slots [] (x ∷ xs) at h = absurd h
have_nth slots (k ∷ ks) [] at h = absurd h
have_nth slots (k ∷ ks) (x ∷ xs) zero h = h.0
have_nth slots (k ∷ ks) (x ∷ xs) (suc at) h = have_nth slots ks xs at h.1

-- ---- keys by GUID

kept_is : (p : Interface → Bool) (x : Interface) → is_some (kept_if p (Some x)) ≡ p x
kept_is p x = elim (cases_Bool (p x)) [
  | inl t ↦ rw t refl
  | inr f ↦ rw f refl
]

key_is : (slots : List (Option Record)) (guid : List ℕ) (k : ℕ) (x : Interface) → at_key slots k ≡ Some x → is_key_of slots guid k ≡ is_of guid x
key_is slots guid k x e = ap (λ o. is_some (kept_if (is_of guid) o)) e ∙ kept_is (is_of guid) x

-- a key that is found is that of an interface of the GUID
key_found : (slots : List (Option Record)) (guid : List ℕ) (P : Interface → Type 0) (ks : List ℕ) (xs : List Interface) (key : ℕ) → HaveInterfaces slots ks xs → AllByRecursion P xs → find (is_key_of slots guid) ks ≡ Some key
    → (x : Interface) × (at_key slots key ≡ Some x) × (is_of guid x ≡ true) × P x
key_found slots guid P [] [] key h a e = absurd cc
key_found slots guid P [] (x ∷ xs) key h a e = absurd h
key_found slots guid P (k ∷ ks) [] key h a e = absurd h
key_found slots guid P (k ∷ ks) (x ∷ xs) key h a e = elim (cases_Bool (is_of guid x)) [
  | inl t ↦
      let same : k ≡ key = same_Some k key (rw (key_is slots guid k x h.0 ∙ t) at e) in
      (x, ap (at_key slots) (sym same) ∙ h.0, t, a.0)
  | inr f ↦ key_found slots guid P ks xs key h.1 a.1 (rw (key_is slots guid k x h.0 ∙ f) at e)
]

found_keyed : (slots : List (Option Record)) (guid : List ℕ) (ks : List ℕ) (xs : List Interface) → HaveInterfaces slots ks xs → option_and_then (at_key slots) (find (is_key_of slots guid) ks) ≡ find (is_of guid) xs
found_keyed slots guid [] [] h = refl
found_keyed slots guid [] (x ∷ xs) h = absurd h
found_keyed slots guid (k ∷ ks) [] h = absurd h
found_keyed slots guid (k ∷ ks) (x ∷ xs) h = elim (cases_Bool (is_of guid x)) [
  | inl t ↦ rw (key_is slots guid k x h.0 ∙ t) (rw t h.0)
  | inr f ↦ rw (key_is slots guid k x h.0 ∙ f) (rw f (found_keyed slots guid ks xs h.1))
]

find_on : (n : ℕ) (guid : List ℕ) (is : List Interface) → find (is_of guid) (filter (is_on n) is) ≡ find (is_at n guid) is
find_on n guid [] = refl
find_on n guid (i ∷ is) = elim (cases_Bool (is_on n i)) [
  | inl t ↦ rw t (ap (λ r. cond (is_of guid i) (Some i) r) (find_on n guid is))
  | inr f ↦ rw f (find_on n guid is)
]

-- the interface of a GUID on a handle is at its key
pub found_at : (is : List Interface) (slots : List (Option Record)) (rows : List Row) → AreFiled is slots rows → (n : ℕ) (guid : List ℕ) → find (is_at n guid) is ≡ option_and_then (at_key slots) (key_at slots rows guid n)
found_at is slots rows h n guid = sym (find_on n guid is) ∙ sym (found_keyed slots guid (keys_on rows n) (filter (is_on n) is) (h.by_handle n))

-- at the key of a GUID on a handle there is an interface of it
pub at_own : (is : List Interface) (slots : List (Option Record)) (rows : List Row) (n : ℕ) (guid : List ℕ) (key : ℕ) → AreFiled is slots rows → key_at slots rows guid n ≡ Some key → (x : Interface) × (at_key slots key ≡ Some x) × (is_at n guid x ≡ true)
at_own is slots rows n guid key h g =
    let f = key_found slots guid (λ x. is_on n x ≡ true) (keys_on rows n) (filter (is_on n) is) key (h.by_handle n) (passed (is_on n) is) g in
    (f.0, f.1, rw (f.3, f.2) refl)

-- ---- keys that are found

find_agree : (p q : ℕ → Bool) → ((k : ℕ) → p k ≡ q k) → (ks : List ℕ) → find p ks ≡ find q ks
find_agree p q same [] = refl
find_agree p q same (k ∷ ks) = elim (cases_Bool (q k)) [
  | inl t ↦ rw (same k ∙ t) (rw t refl)
  | inr f ↦ rw (same k ∙ f) (rw f (find_agree p q same ks))
]

find_kept : (old new : List (Option Record)) (guid : List ℕ) → ((k : ℕ) (x : Interface) → at_key old k ≡ Some x → at_key new k ≡ Some x)
    → (ks : List ℕ) (xs : List Interface) → HaveInterfaces old ks xs → find (is_key_of new guid) ks ≡ find (is_key_of old guid) ks
find_kept old new guid each [] [] h = refl
find_kept old new guid each [] (x ∷ xs) h = absurd h
find_kept old new guid each (k ∷ ks) [] h = absurd h
find_kept old new guid each (k ∷ ks) (x ∷ xs) h = elim (cases_Bool (is_of guid x)) [
  | inl t ↦ rw (key_is new guid k x (each k x h.0) ∙ t) (rw (key_is old guid k x h.0 ∙ t) refl)
  | inr f ↦ rw (key_is new guid k x (each k x h.0) ∙ f) (rw (key_is old guid k x h.0 ∙ f) (find_kept old new guid each ks xs h.1))
]

find_push_found : (q : ℕ → Bool) (ks : List ℕ) (j k : ℕ) → find q ks ≡ Some j → find q (ks ++ k ∷ []) ≡ Some j
find_push_found q [] j k e = absurd cc
find_push_found q (x ∷ xs) j k e = elim (cases_Bool (q x)) [
  | inl t ↦ rw t (rw t at e)
  | inr f ↦ rw f (find_push_found q xs j k (rw f at e))
]

-- where fewer pass, the one that was found is still found if it passes
find_fewer : (p q : ℕ → Bool) → ((k : ℕ) → q k ≡ true → p k ≡ true) → (ks : List ℕ) (j : ℕ) → q j ≡ true → find p ks ≡ Some j → find q ks ≡ Some j
find_fewer p q less [] j own e = absurd cc
find_fewer p q less (k ∷ ks) j own e = elim (cases_Bool (p k)) [
  | inl t ↦
      let s : k ≡ j = same_Some k j (rw t at e) in
      let u : q k ≡ true = ap q s ∙ own in
      rw u (ap (λ x. Some x) s)
  | inr f ↦ elim (cases_Bool (q k)) [
    | inl u ↦ let w : true ≡ false = sym (less k u) ∙ f in absurd cc
    | inr g ↦ rw g (find_fewer p q less ks j own (rw f at e))
  ]
]

find_filtered : (q r : ℕ → Bool) (ks : List ℕ) (j : ℕ) → r j ≡ true → find q ks ≡ Some j → find q (filter r ks) ≡ Some j
find_filtered q r [] j own e = absurd cc
find_filtered q r (k ∷ ks) j own e = elim (cases_Bool (q k)) [
  | inl t ↦
      let s : k ≡ j = same_Some k j (rw t at e) in
      let u : r k ≡ true = ap r s ∙ own in
      rw u (rw t (ap (λ x. Some x) s))
  | inr f ↦
      let rest : find q (filter r ks) ≡ Some j = find_filtered q r ks j own (rw f at e) in
      elim (cases_Bool (r k)) [
        | inl u ↦ rw u (rw f rest)
        | inr g ↦ rw g rest
      ]
]

-- ---- one more

all_units : (xs : List Interface) → AllByRecursion (λ x. Unit {0}) xs
all_units xs = all_of (λ x. Unit {0}) (λ x. tt) xs

pub filed_more : (is : List Interface) (old new : List (Option Record)) (rows rs : List Row) (key : ℕ) (i : Interface)
    → at_key old key ≡ None → at_key new key ≡ Some i → ((j : ℕ) → j ≢ key → at_key new j ≡ at_key old j)
    → ChangesKeys i.handle (λ ks. ks ++ key ∷ []) rows rs → key_at old rows i.guid i.handle ≡ None
    → AreFiled is old rows → AreFiled (is ++ i ∷ []) new rs
filed_more is old new rows rs key i none there others c absent h =
    let still : (k : ℕ) (x : Interface) → at_key old k ≡ Some x → at_key new k ≡ Some x =
    λ k x e. others k (λ w. let z : Some x ≡ None = sym e ∙ ap (at_key old) w ∙ none in cc) ∙ e in
    let same : (ks : List ℕ) (p : Interface → Bool) → HaveInterfaces old ks (filter p is) → HaveInterfaces new ks (filter p is) =
    λ ks p b. have_kept old new (λ x. Unit {0}) (λ k x e u. still k x e) ks (filter p is) (all_units (filter p is)) b in
    let kept : (n : ℕ) (guid : List ℕ) → find (is_key_of new guid) (keys_on rows n) ≡ key_at old rows guid n =
    λ n guid. find_kept old new guid still (keys_on rows n) (filter (is_on n) is) (h.by_handle n) in
    record {
      by_handle = λ n. elim (cases_Bool (i.handle == n)) [
        | inl t ↦
            let e : keys_on rs n ≡ keys_on rows n ++ key ∷ [] = rw t at (c.keys n) in
            rw (e, filter_append (is_on n) is (i ∷ [])) (rw t (have_more new (keys_on rows n) (filter (is_on n) is) key i (same (keys_on rows n) (is_on n) (h.by_handle n)) there))
        | inr f ↦
            let e : keys_on rs n ≡ keys_on rows n = rw f at (c.keys n) in
            rw (e, filter_append (is_on n) is (i ∷ [])) (rw f (rw append-nil (same (keys_on rows n) (is_on n) (h.by_handle n))))
      ];
      in_row = λ j x e. elim (cases_eq j key) [
        | inl w ↦
            let s : i ≡ x = same_Some i x (sym there ∙ ap (at_key new) (sym w) ∙ e) in
            let keys : keys_on rs i.handle ≡ keys_on rows i.handle ++ key ∷ [] = rw (eq-eqb i.handle i.handle refl) at (c.keys i.handle) in
            let own : is_key_of new i.guid key ≡ true = key_is new i.guid key i there ∙ same_guid-refl i.guid in
            let found : key_at new rs i.guid i.handle ≡ Some key = ap (find (is_key_of new i.guid)) keys ∙ find_push_new (is_key_of new i.guid) (keys_on rows i.handle) key own (kept i.handle i.guid ∙ absent) in
            subst (λ (y : Interface). key_at new rs y.guid y.handle ≡ Some j) s (found ∙ ap (λ k. Some k) (sym w))
        | inr d ↦
            let b : find (is_key_of new x.guid) (keys_on rows x.handle) ≡ Some j = kept x.handle x.guid ∙ h.in_row j x (sym (others j d) ∙ e) in
            elim (cases_Bool (i.handle == x.handle)) [
              | inl t ↦
                  let keys : keys_on rs x.handle ≡ keys_on rows x.handle ++ key ∷ [] = rw t at (c.keys x.handle) in
                  ap (find (is_key_of new x.guid)) keys ∙ find_push_found (is_key_of new x.guid) (keys_on rows x.handle) j key b
              | inr f ↦
                  let keys : keys_on rs x.handle ≡ keys_on rows x.handle = rw f at (c.keys x.handle) in
                  ap (find (is_key_of new x.guid)) keys ∙ b
            ]
      ];
    }

-- ---- one less

-- of a GUID on a handle there is no interface but the one at its key
pub only_one : (is : List Interface) (slots : List (Option Record)) (rows : List Row) (n : ℕ) (guid : List ℕ) (key : ℕ) → AreFiled is slots rows → key_at slots rows guid n ≡ Some key
    → (k : ℕ) (x : Interface) → k ≢ key → at_key slots k ≡ Some x → is_at n guid x ≡ false
only_one is slots rows n guid key h g k x d e = elim (cases_Bool (is_at n guid x)) [
  | inl t ↦
      let b : key_at slots rows guid n ≡ Some k = rw (← at_handle n guid x t) (rw (← at_guid n guid x t) (h.in_row k x e)) in
      absurd (d (same_Some k key (sym b ∙ g)))
  | inr f ↦ f
]

-- the interface at the key of a GUID on a handle is of it
pub keyed_at : (is : List Interface) (slots : List (Option Record)) (rows : List Row) (n : ℕ) (guid : List ℕ) (key : ℕ) → AreFiled is slots rows → key_at slots rows guid n ≡ Some key
    → (x : Interface) → at_key slots key ≡ Some x → is_at n guid x ≡ true
keyed_at is slots rows n guid key h g x e =
    let f = at_own is slots rows n guid key h g in
    subst (λ (z : Interface). is_at n guid z ≡ true) (same_Some f.0 x (sym f.1 ∙ e)) f.2

off_other : (n m : ℕ) (guid : List ℕ) (x : Interface) → (n == m) ≡ false → is_on m x ≡ true → not (is_at n guid x) ≡ true
off_other n m guid x f t =
    let e : (x.handle == n) ≡ false = rw (is_same x.handle m t) (turned m n ∙ f) in
    rw e refl

pub at_other : (n m : ℕ) (guid k : List ℕ) (x : Interface) → ((n == m) && same_guid guid k) ≡ false → is_at m k x ≡ true → not (is_at n guid x) ≡ true
at_other n m guid k x f t =
    let e : is_at n guid x ≡ false = rw (at_handle m k x t, at_guid m k x t, turned m n, guid_turned k guid) f in
    rw e refl

pub filed_less : (is : List Interface) (old new : List (Option Record)) (rows rs : List Row) (n : ℕ) (guid : List ℕ) (key : ℕ)
    → key_at old rows guid n ≡ Some key → at_key new key ≡ None → ((j : ℕ) → j ≢ key → at_key new j ≡ at_key old j)
    → ChangesKeys n (filter (λ k. not (k == key))) rows rs
    → AreFiled is old rows → AreFiled (filter (λ i. not (is_at n guid i)) is) new rs
filed_less is old new rows rs n guid key there none others c h =
    let q : Interface → Bool = λ i. not (is_at n guid i) in
    let own : (x : Interface) → at_key old key ≡ Some x → q x ≡ false = λ x e. rw (keyed_at is old rows n guid key h there x e) refl in
    let rest : (k : ℕ) (x : Interface) → k ≢ key → at_key old k ≡ Some x → (q x ≡ true) × (at_key new k ≡ Some x) =
    λ k x d e. (rw (only_one is old rows n guid key h there k x d e) refl, others k d ∙ e) in
    -- interfaces that are not of the GUID on the handle keep their keys
    let still : (k : ℕ) (x : Interface) → at_key old k ≡ Some x → q x ≡ true → at_key new k ≡ Some x =
    λ k x e p. others k (λ w. let z : true ≡ false = sym p ∙ own x (ap (at_key old) (sym w) ∙ e) in cc) ∙ e in
    let same : (ks : List ℕ) (p : Interface → Bool) → ((x : Interface) → p x ≡ true → q x ≡ true) → HaveInterfaces old ks (filter p is) → HaveInterfaces new ks (filter p (filter q is)) =
    λ ks p i b. rw (filter_inside q p i is) (have_kept old new (λ x. p x ≡ true) (λ k x e t. still k x e (i x t)) ks (filter p is) (passed p is) b) in
    let fewer : (g : List ℕ) (k : ℕ) → is_key_of new g k ≡ true → is_key_of old g k ≡ true =
    λ g k t. elim (cases_eq k key) [
      | inl w ↦ let z : false ≡ true = sym (ap (λ o. is_some (kept_if (is_of g) o)) (ap (at_key new) w ∙ none)) ∙ t in absurd cc
      | inr d ↦ ap (λ o. is_some (kept_if (is_of g) o)) (sym (others k d)) ∙ t
    ] in
    record {
      by_handle = λ m. elim (cases_Bool (n == m)) [
        | inl t ↦
            let e : keys_on rs m ≡ filter (λ k. not (k == key)) (keys_on rows m) = rw t at (c.keys m) in
            rw (e, filter_swap (is_on m) q is) (have_less old new key q own rest (keys_on rows m) (filter (is_on m) is) (h.by_handle m))
        | inr f ↦
            let e : keys_on rs m ≡ keys_on rows m = rw f at (c.keys m) in
            rw e (same (keys_on rows m) (is_on m) (λ x t. off_other n m guid x f t) (h.by_handle m))
      ];
      in_row = λ j x e. elim (cases_eq j key) [
        | inl w ↦ let z : Some x ≡ None = sym e ∙ ap (at_key new) w ∙ none in cc
        | inr d ↦
            let was : key_at old rows x.guid x.handle ≡ Some j = h.in_row j x (sym (others j d) ∙ e) in
            let found : find (is_key_of new x.guid) (keys_on rows x.handle) ≡ Some j =
            find_fewer (is_key_of old x.guid) (is_key_of new x.guid) (fewer x.guid) (keys_on rows x.handle) j (key_is new x.guid j x e ∙ same_guid-refl x.guid) was in
            elim (cases_Bool (n == x.handle)) [
              | inl t ↦
                  let keys : keys_on rs x.handle ≡ filter (λ k. not (k == key)) (keys_on rows x.handle) = rw t at (c.keys x.handle) in
                  ap (find (is_key_of new x.guid)) keys ∙ find_filtered (is_key_of new x.guid) (λ k. not (k == key)) (keys_on rows x.handle) j (ap not (ne_eqb j key d)) found
              | inr f ↦
                  let keys : keys_on rs x.handle ≡ keys_on rows x.handle = rw f at (c.keys x.handle) in
                  ap (find (is_key_of new x.guid)) keys ∙ found
            ]
      ];
    }

-- ---- one changed

pub filed_changed : (is : List Interface) (old new : List (Option Record)) (rows : List Row) (n : ℕ) (guid : List ℕ) (value stamp key : ℕ)
    → key_at old rows guid n ≡ Some key → ((x : Interface) → at_key old key ≡ Some x → at_key new key ≡ Some (restamped n guid value stamp x))
    → ((y : Interface) → at_key new key ≡ Some y → is_at n guid y ≡ true)
    → ((j : ℕ) → j ≢ key → at_key new j ≡ at_key old j)
    → AreFiled is old rows → AreFiled (map (restamped n guid value stamp) is) new rows
filed_changed is old new rows n guid value stamp key there own at others h =
    let f : Interface → Interface = restamped n guid value stamp in
    let each : (k : ℕ) (x : Interface) → at_key old k ≡ Some x → Unit {0} → at_key new k ≡ Some (f x) =
    λ k x e u. elim (cases_eq k key) [
      | inl w ↦ rw w (own x (ap (at_key old) (sym w) ∙ e))
      | inr d ↦ let z : is_at n guid x ≡ false = only_one is old rows n guid key h there k x d e in others k d ∙ rw z e
    ] in
    let same : (ks : List ℕ) (p : Interface → Bool) → ((x : Interface) → p (f x) ≡ p x) → HaveInterfaces old ks (filter p is) → HaveInterfaces new ks (filter p (map f is)) =
    λ ks p i b. rw (filter_changed f p i is) (have_changed old new (λ x. Unit {0}) f each ks (filter p is) (all_units (filter p is)) b) in
    let first = at_own is old rows n guid key h there in
    let agree : (g : List ℕ) (k : ℕ) → is_key_of new g k ≡ is_key_of old g k =
    λ g k. elim (cases_eq k key) [
      | inl w ↦ rw w (key_is new g key (f first.0) (own first.0 first.1) ∙ ap (λ l. same_guid l g) (restamped_guid n guid value stamp first.0) ∙ sym (key_is old g key first.0 first.1))
      | inr d ↦ ap (λ o. is_some (kept_if (is_of g) o)) (others k d)
    ] in
    record {
      by_handle = λ m. same (keys_on rows m) (is_on m) (λ x. ap (λ k. k == m) (restamped_handle n guid value stamp x)) (h.by_handle m);
      in_row = λ j x e. elim (cases_eq j key) [
        | inl w ↦
            let t : is_at n guid x ≡ true = at x (ap (at_key new) (sym w) ∙ e) in
            let found : key_at new rows guid n ≡ Some j = find_agree (is_key_of new guid) (is_key_of old guid) (agree guid) (keys_on rows n) ∙ there ∙ ap (λ k. Some k) (sym w) in
            rw (at_handle n guid x t, at_guid n guid x t) found
        | inr d ↦ find_agree (is_key_of new x.guid) (is_key_of old x.guid) (agree x.guid) (keys_on rows x.handle) ∙ h.in_row j x (sym (others j d) ∙ e)
      ];
    }
