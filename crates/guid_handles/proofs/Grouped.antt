-- Groups by GUID: which one is found, and which stamps are in them once one has changed.
use Rattle.std.proofs.Math.ListN.{set}
use Rattle.std.proofs.Math.Numerals.{add-one}
use Rattle.std.proofs.Common.{get_or, take, ◌&&◌, ◌≡◌, ◌≢◌, ℕ, zero, suc, ◌<◌, ◌≤◌, ◌==◌, nat_lt, Bool, true, false, cond, List, [], ◌∷◌, map, length, Option, Some, None, is_some, inl, inr, refl, sym, ap, ◌∙◌, arith, subst, ◌+◌, ◌++◌}
use Rattle.std.specs.List.{find, list_any, slice_get, insert, remove}
use Rattle.std.specs.Option.{option_map, option_and_then}
use Rattle.std.specs.declared.cmp.Ordering.TheVariants.{Less}
use Rattle.std.specs.Ordering.{nat_cmp, is_lt, is_eq}
use Rattle.std.specs.Cmp.Lexicographic.{slice_cmp, texts_ties}
use Rattle.std.proofs.lemmas.Cmp.{nat_list_cmp_total}
use Rattle.std.proofs.lemmas.Bool.{cases_Bool, ltb-false, ne_eqb}
use Rattle.std.proofs.lemmas.Bool.Decides.{eqb_tells}
use Rattle.std.proofs.lemmas.List.{set-get_or}
use Rattle.std.proofs.lemmas.Option.{same_Some}
use Rattle.guid_handles.specs.HandleTables.{same_guid}
use Rattle.guid_handles.specs.Sorting.{Ascending, place, kept_if}
use Rattle.guid_handles.specs.Indexes.{Group, AreGroups, IsNext, is_bare, is_group_of, is_before, AscendByGuid, IsPlaceOf, SetsStampIn, number_beside, stamp_in, stamp_at}
use Rattle.guid_handles.proofs.SortedLists.{IsSplit, all_insert, all_mapped, all_remove, all_set, ascending_remove, set_same, find_none, found_none, find_split, find_insert_other, find_insert_new, ascending_insert, map_insert, map_remove, place_map}
use Rattle.guid_handles.proofs.GuidOrder.{same_guid-true, guid_splits, is_less, less_from, greater_of, and_false, and_true}

pub is_same : (m n : ℕ) → (m == n) ≡ true → m ≡ n
is_same m n e = elim (eqb_tells m n) [
  | inl t ↦ t.1
  | inr f ↦ let k = rw e at f.0 in cc
]

pub above : (m n : ℕ) → (m == n) ≡ false → nat_lt m n ≡ false → n < m
above m n e l = elim (eqb_tells m n) [
  | inl t ↦ let k = rw e at t.0 in cc
  | inr f ↦ omega (arith, f.1, ltb-false m n l)
]

-- ---- the group of a GUID

pub found_group : (groups : List Group) (guid : List ℕ) (at : ℕ) → AscendByGuid groups → at ≡ place (is_before guid) groups → kept_if (is_group_of guid) (slice_get groups at) ≡ find (is_group_of guid) groups
found_group groups guid at a e =
    ap (λ k. kept_if (is_group_of guid) (slice_get groups k)) e ∙ sym (find_split (is_before guid) (is_group_of guid) groups (guid_splits guid groups a))

pub some_map : {X Y : Type 0} (f : X → Y) (o : Option X) → is_some (option_map f o) ≡ is_some o
some_map f None = refl
some_map f (Some x) = refl

pub kept_one : {X : Type 0} (p : X → Bool) (o : Option X) → is_some (kept_if p o) ≡ true → kept_if p o ≡ o
kept_one p None h = refl
kept_one p (Some x) h = elim (cases_Bool (p x)) [
  | inl e ↦ rw e refl
  | inr e ↦ let n = rw e at h in cc
]

pub one_there : {X : Type 0} (xs : List X) (at : ℕ) → is_some (slice_get xs at) ≡ true → at < length xs
one_there [] zero h = cc
one_there [] (suc at) h = cc
one_there (x ∷ xs) zero h = omega arith
one_there (x ∷ xs) (suc at) h = omega (arith, one_there xs at h)

pub none_of : {X : Type 0} (o : Option X) → is_some o ≡ false → o ≡ None
none_of None h = refl
none_of (Some x) h = cc

pub place_returned : {G : Type 0} (now : G → Group) (groups : List Group) (guid : List ℕ) (at : ℕ) (o : Option G) → AscendByGuid groups → at ≡ place (is_before guid) groups
    → option_map now o ≡ kept_if (is_group_of guid) (slice_get groups at) → is_some o ≡ true → IsPlaceOf guid groups at
place_returned now groups guid at o a e k s =
    let kept : is_some (kept_if (is_group_of guid) (slice_get groups at)) ≡ true = ap is_some (sym k) ∙ some_map now o ∙ s in
    let there : kept_if (is_group_of guid) (slice_get groups at) ≡ slice_get groups at = kept_one (is_group_of guid) (slice_get groups at) kept in
    (one_there groups at (ap is_some (sym there) ∙ kept), sym (found_group groups guid at a e) ∙ there, e)

pub none_returned : {G : Type 0} (now : G → Group) (groups : List Group) (guid : List ℕ) (at : ℕ) (o : Option G) → AscendByGuid groups → at ≡ place (is_before guid) groups
    → option_map now o ≡ kept_if (is_group_of guid) (slice_get groups at) → is_some o ≡ false → find (is_group_of guid) groups ≡ None
none_returned now groups guid at o a e k s = sym (found_group groups guid at a e) ∙ none_of (kept_if (is_group_of guid) (slice_get groups at)) (ap is_some (sym k) ∙ some_map now o ∙ s)

-- a bare group has no stamps
pub no_stamps : (g : Group) → is_bare g ≡ true → (n : ℕ) → stamp_in g n ≡ None
no_stamps g b n = held_none g.holders (is_same (length g.holders) 0 b)
  where
    held_none : (hs : List ℕ) → length hs ≡ 0 → number_beside hs g.stamps n ≡ None
    held_none [] z = refl
    held_none (h ∷ hs) z = absurd (omega (arith, z))

-- ---- one group changes

pub find_set_new : {X : Type 0} (q before : X → Bool) → ((x : X) → before x ≡ true → q x ≡ false) → (xs : List X) (y : X) → place before xs < length xs → q y ≡ true → find q (set xs (place before xs) y) ≡ Some y
find_set_new q before f [] y l t = absurd (omega arith)
find_set_new q before f (x ∷ xs) y l t = elim (cases_Bool (before x)) [
  | inl e ↦ let m : place before xs < length xs = omega (arith, rw e at l) in rw e (rw (f x e) (find_set_new q before f xs y m t))
  | inr e ↦ rw e (rw t refl)
]

pub find_set_other : {X : Type 0} (q : X → Bool) (xs : List X) (at : ℕ) (x y : X) → slice_get xs at ≡ Some x → q x ≡ false → q y ≡ false → find q (set xs at y) ≡ find q xs
find_set_other q [] zero x y e f g = refl
find_set_other q [] (suc at) x y e f g = refl
find_set_other q (z ∷ zs) zero x y e f g = let n : q z ≡ false = rw (same_Some z x e) f in rw (n, g) refl
find_set_other q (z ∷ zs) (suc at) x y e f g = ap (λ r. cond (q z) (Some z) r) (find_set_other q zs at x y e f g)

before_other : (guid : List ℕ) (g : Group) → is_before guid g ≡ true → is_group_of guid g ≡ false
before_other guid g h = texts_ties g.guid guid ∙ ap is_eq (is_less (slice_cmp nat_cmp g.guid guid) h)

other_guid : (guid k l : List ℕ) → l ≡ guid → same_guid guid k ≡ false → same_guid l k ≡ false
other_guid guid k l e f = rw e f

pub found_of : (groups : List Group) (k : List ℕ) (g : Group) → find (is_group_of k) groups ≡ Some g → is_group_of k g ≡ true
found_of [] k g e = absurd cc
found_of (h ∷ hs) k g e = elim (cases_Bool (is_group_of k h)) [
  | inl t ↦ subst (λ (x : Group). is_group_of k x ≡ true) (same_Some h g (rw t at e)) t
  | inr f ↦ found_of hs k g (rw f at e)
]

-- which group is found once a group of a GUID takes the place of another
group_set : (groups : List Group) (guid : List ℕ) (at : ℕ) (g new : Group) → IsPlaceOf guid groups at → slice_get groups at ≡ Some g → new.guid ≡ g.guid
    → (k : List ℕ) → find (is_group_of k) (set groups at new) ≡ cond (same_guid guid k) (Some new) (find (is_group_of k) groups)
group_set groups guid at g new p e s k =
    let t : is_group_of guid g ≡ true = found_of groups guid g (p.1 ∙ e) in
    let same : g.guid ≡ guid = same_guid-true g.guid guid t in
    elim (cases_Bool (same_guid guid k)) [
      | inl y ↦
          rw y (rw (← same_guid-true guid k y)
          (rw p.2 (find_set_new (is_group_of guid) (is_before guid) (before_other guid) groups new (subst (λ m. m < length groups) p.2 p.0) (rw s t))))
      | inr f ↦ rw f (find_set_other (is_group_of k) groups at g new e (other_guid guid k g.guid same f) (other_guid guid k new.guid (s ∙ same) f))
    ]

-- a group of a GUID takes the place of another
pub stamp_set : (groups : List Group) (guid : List ℕ) (at : ℕ) (g new : Group) → IsPlaceOf guid groups at → slice_get groups at ≡ Some g → new.guid ≡ g.guid
    → (k : List ℕ) (n : ℕ) → stamp_at (set groups at new) k n ≡ cond (same_guid guid k) (stamp_in new n) (stamp_at groups k n)
stamp_set groups guid at g new p e s k n =
    ap (option_and_then (λ h. stamp_in h n)) (group_set groups guid at g new p e s k) ∙ elim (cases_Bool (same_guid guid k)) [
      | inl y ↦ rw y refl
      | inr f ↦ rw f refl
    ]

-- what the group at a place has is what is found
pub stamp_there : (groups : List Group) (guid : List ℕ) (at : ℕ) (g : Group) → IsPlaceOf guid groups at → slice_get groups at ≡ Some g → (n : ℕ) → stamp_at groups guid n ≡ stamp_in g n
stamp_there groups guid at g p e n = ap (option_and_then (λ h. stamp_in h n)) (p.1 ∙ e)

-- one stamp of a group changes
pub stamp_changed : (groups : List Group) (guid : List ℕ) (at : ℕ) (g new : Group) (m : ℕ) (o : Option ℕ) → IsPlaceOf guid groups at → slice_get groups at ≡ Some g → new.guid ≡ g.guid
    → ((n : ℕ) → stamp_in new n ≡ cond (m == n) o (stamp_in g n))
    → (k : List ℕ) (n : ℕ) → stamp_at (set groups at new) k n ≡ cond ((m == n) && same_guid guid k) o (stamp_at groups k n)
stamp_changed groups guid at g new m o p e s c k n = elim (cases_Bool (same_guid guid k)) [
  | inl y ↦
      stamp_set groups guid at g new p e s k n
      ∙ rw (y, and_true (m == n)) (rw (← same_guid-true guid k y) (c n ∙ ap (cond (m == n) o) (sym (stamp_there groups guid at g p e n))))
  | inr f ↦ stamp_set groups guid at g new p e s k n ∙ rw (f, and_false (m == n)) refl
]

ascend_set : (groups : List Group) (at : ℕ) (g new : Group) → AscendByGuid groups → slice_get groups at ≡ Some g → new.guid ≡ g.guid → AscendByGuid (set groups at new)
ascend_set groups at g new a e s = subst (Ascending (λ x y. slice_cmp nat_cmp x y ≡ Less)) (sym (set_same (λ h. h.guid) groups at g new e s)) a

-- a group that has a stamp is not bare
pub held_by : (g : Group) (n s : ℕ) → stamp_in g n ≡ Some s → is_bare g ≡ false
held_by g n s e = elim (cases_Bool (is_bare g)) [
  | inl t ↦ let w : None ≡ Some s = sym (no_stamps g t n) ∙ e in absurd cc
  | inr f ↦ f
]

-- a group of more than one holder, with one of them gone
pub still_held : (old new : Group) (h : ℕ) → is_some (stamp_in old h) ≡ true → length old.holders ≢ 1 → length old.holders ≤ length new.holders + 1 → is_bare new ≡ false
still_held old new h s d f = ne_eqb (length new.holders) 0 (λ z. d (omega (arith, z, f, some_held old.holders old.stamps s)))
  where
    some_held : (hs ss : List ℕ) → is_some (number_beside hs ss h) ≡ true → 0 < length hs
    some_held [] ss t = absurd cc
    some_held (x ∷ xs) ss t = omega arith

pub groups_set : (groups : List Group) (at : ℕ) (g new : Group) → AreGroups groups → slice_get groups at ≡ Some g → new.guid ≡ g.guid → is_bare new ≡ false → AreGroups (set groups at new)
groups_set groups at g new a e s b = record {
  ascending = ascend_set groups at g new a.ascending e s;
  held = all_set (λ h. is_bare h ≡ false) groups at new a.held b;
}

-- ---- a group comes

before_sides : (guid : List ℕ) (g : Group) → is_group_of guid g ≡ false
    → (is_lt (slice_cmp nat_cmp g.guid guid) ≡ true → slice_cmp nat_cmp g.guid guid ≡ Less) × (is_lt (slice_cmp nat_cmp g.guid guid) ≡ false → slice_cmp nat_cmp guid g.guid ≡ Less)
before_sides guid g f = (
  λ t. is_less (slice_cmp nat_cmp g.guid guid) t,
  λ b. less_from nat_list_cmp_total g.guid guid (greater_of (slice_cmp nat_cmp g.guid guid) b (sym (texts_ties g.guid guid) ∙ f)),
)

pub ascend_insert : (groups : List Group) (new : Group) (at : ℕ) → AscendByGuid groups → find (is_group_of new.guid) groups ≡ None → at ≡ place (is_before new.guid) groups → AscendByGuid (insert groups at new)
ascend_insert groups new at a none e =
    let guids : at ≡ place (λ x. is_lt (slice_cmp nat_cmp x new.guid)) (map (λ g. g.guid) groups) = e ∙ sym (place_map (λ g. g.guid) (λ x. is_lt (slice_cmp nat_cmp x new.guid)) groups) in
    rw (map_insert (λ g. g.guid) groups at new, guids)
    (ascending_insert (λ x y. slice_cmp nat_cmp x y ≡ Less) (λ x y z l m. nat_list_cmp_total.trans x y z l m) (λ x. is_lt (slice_cmp nat_cmp x new.guid)) (map (λ g. g.guid) groups) new.guid
    (all_mapped (λ x. (is_lt (slice_cmp nat_cmp x new.guid) ≡ true → slice_cmp nat_cmp x new.guid ≡ Less) × (is_lt (slice_cmp nat_cmp x new.guid) ≡ false → slice_cmp nat_cmp new.guid x ≡ Less))
    (λ g. is_group_of new.guid g ≡ false) (λ g. g.guid) (before_sides new.guid) groups (found_none (is_group_of new.guid) groups none))
    a)

-- which group is found once one comes of a GUID that has none
group_insert : (groups : List Group) (new : Group) (guid : List ℕ) (at : ℕ) → new.guid ≡ guid → find (is_group_of guid) groups ≡ None
    → (k : List ℕ) → find (is_group_of k) (insert groups at new) ≡ cond (same_guid guid k) (Some new) (find (is_group_of k) groups)
group_insert groups new guid at own none k = elim (cases_Bool (same_guid guid k)) [
  | inl y ↦
      let e : find (is_group_of k) groups ≡ None = rw (← same_guid-true guid k y) none in
      rw y (find_insert_new (is_group_of k) groups at new (rw own y) e)
  | inr f ↦ rw f (find_insert_other (is_group_of k) groups at new (rw own f))
]

-- a group of a GUID that has none, with one holder
pub stamp_insert : (groups : List Group) (new : Group) (guid : List ℕ) (at m key : ℕ) → new.guid ≡ guid → find (is_group_of guid) groups ≡ None → ((n : ℕ) → stamp_in new n ≡ cond (m == n) (Some key) None)
    → (k : List ℕ) (n : ℕ) → stamp_at (insert groups at new) k n ≡ cond ((m == n) && same_guid guid k) (Some key) (stamp_at groups k n)
stamp_insert groups new guid at m key own none c k n = ap (option_and_then (λ h. stamp_in h n)) (group_insert groups new guid at own none k) ∙ elim (cases_Bool (same_guid guid k)) [
  | inl y ↦
      let e : find (is_group_of k) groups ≡ None = rw (← same_guid-true guid k y) none in
      rw (y, and_true (m == n)) (rw e (c n))
  | inr f ↦ rw (f, and_false (m == n)) refl
]

pub groups_insert : (groups : List Group) (new : Group) (guid : List ℕ) (at : ℕ) → new.guid ≡ guid → AreGroups groups → find (is_group_of guid) groups ≡ None → at ≡ place (is_before guid) groups → is_bare new ≡ false
    → AreGroups (insert groups at new)
groups_insert groups new guid at own a none e b = record {
  ascending = ascend_insert groups new at a.ascending (rw own none) (rw own e);
  held = all_insert (λ h. is_bare h ≡ false) groups at new a.held b;
}

-- ---- a group goes

pub groups_remove : (groups : List Group) (at : ℕ) → AreGroups groups → AreGroups (remove groups at)
groups_remove groups at a = record {
  ascending = rw (map_remove (λ g. g.guid) groups at) (ascending_remove (λ x y. slice_cmp nat_cmp x y ≡ Less) (map (λ g. g.guid) groups) at a.ascending);
  held = all_remove (λ h. is_bare h ≡ false) groups at a.held;
}

pub remove_set : {X : Type 0} (xs : List X) (at : ℕ) (y : X) → remove (set xs at y) at ≡ remove xs at
remove_set [] zero y = refl
remove_set [] (suc at) y = refl
remove_set (x ∷ xs) zero y = refl
remove_set (x ∷ xs) (suc at) y = ap (λ r. x ∷ r) (remove_set xs at y)

find_removed_other : {X : Type 0} (q : X → Bool) (xs : List X) (at : ℕ) (x : X) → slice_get xs at ≡ Some x → q x ≡ false → find q (remove xs at) ≡ find q xs
find_removed_other q [] zero x e f = refl
find_removed_other q [] (suc at) x e f = refl
find_removed_other q (z ∷ zs) zero x e f = let n : q z ≡ false = rw (same_Some z x e) f in rw n refl
find_removed_other q (z ∷ zs) (suc at) x e f = ap (λ r. cond (q z) (Some z) r) (find_removed_other q zs at x e f)

find_removed : {X : Type 0} (before q : X → Bool) (xs : List X) → IsSplit before q xs → place before xs < length xs → find q (remove xs (place before xs)) ≡ None
find_removed before q [] h l = absurd (omega (arith, l))
find_removed before q (x ∷ xs) h l = elim (cases_Bool (before x)) [
  | inl e ↦
      let m : place before xs < length xs = omega (arith, rw e at l) in
      rw e (rw (h.0 e) (find_removed before q xs h.2 m))
  | inr e ↦ rw e (find_none q xs (h.1 e))
]

only_beside : (hs ss : List ℕ) (h n : ℕ) → length hs ≡ 1 → is_some (number_beside hs ss h) ≡ true → None ≡ cond (h == n) None (number_beside hs ss n)
only_beside [] ss h n l t = absurd (omega (arith, l))
only_beside (x ∷ y ∷ ys) ss h n l t = absurd (omega (arith, l))
only_beside (x ∷ []) [] h n l t = absurd cc
only_beside (x ∷ []) (s ∷ ss) h n l t = elim (eqb_tells h n) [
  | inl e ↦ rw e.0 refl
  | inr d ↦ elim (cases_Bool (x == h)) [
    | inl y ↦ let f : (x == n) ≡ false = ne_eqb x n (λ w. d.1 (sym (is_same x h y) ∙ w)) in rw d.0 (rw f refl)
    | inr z ↦ let w = rw z at t in absurd cc
  ]
]

-- without its only holder a group is bare
pub only_goes : (g : Group) (h : ℕ) → length g.holders ≡ 1 → is_some (stamp_in g h) ≡ true → SetsStampIn h None g (record g { holders = []; stamps = [] })
only_goes g h l t = λ n. only_beside g.holders g.stamps h n l t

-- a bare group may go
pub bare_removed : (groups : List Group) (guid : List ℕ) (at : ℕ) (g new : Group) → AscendByGuid groups → IsPlaceOf guid groups at → slice_get groups at ≡ Some g → new.guid ≡ g.guid → is_bare new ≡ true
    → (k : List ℕ) (n : ℕ) → stamp_at (remove groups at) k n ≡ stamp_at (set groups at new) k n
bare_removed groups guid at g new a p e s b k n = elim (cases_Bool (same_guid guid k)) [
  | inl y ↦
      let same : guid ≡ k = same_guid-true guid k y in
      let gone : find (is_group_of guid) (remove groups at) ≡ None =
      subst (λ (m : ℕ). find (is_group_of guid) (remove groups m) ≡ None) (sym p.2) (find_removed (is_before guid) (is_group_of guid) groups (guid_splits guid groups a) (subst (λ m. m < length groups) p.2 p.0)) in
      let none : find (is_group_of k) (remove groups at) ≡ None = rw (← same) gone in
      ap (option_and_then (λ h. stamp_in h n)) none ∙ sym (stamp_set groups guid at g new p e s k n ∙ rw y (no_stamps new b n))
  | inr f ↦
      let own : g.guid ≡ guid = same_guid-true g.guid guid (found_of groups guid g (p.1 ∙ e)) in
      ap (option_and_then (λ h. stamp_in h n)) (find_removed_other (is_group_of k) groups at g e (other_guid guid k g.guid own f))
      ∙ sym (stamp_set groups guid at g new p e s k n ∙ rw f refl)
]

pub none_stamped : (groups : List Group) (guid : List ℕ) (n : ℕ) → find (is_group_of guid) groups ≡ None → stamp_at groups guid n ≡ None
none_stamped groups guid n e = ap (option_and_then (λ g. stamp_in g n)) e

-- the handles of a group are those that have a stamp in it
pub holders_returned : (groups : List Group) (guid : List ℕ) (g : Group) → Some g ≡ find (is_group_of guid) groups → length g.holders ≡ length g.stamps → (n : ℕ) → list_any (λ h. h == n) g.holders ≡ is_some (stamp_at groups guid n)
holders_returned groups guid g e even n = any_beside n g.holders g.stamps even ∙ ap (λ o. is_some (option_and_then (λ h. stamp_in h n) o)) e
  where
    any_beside : (n : ℕ) (hs ks : List ℕ) → length hs ≡ length ks → list_any (λ h. h == n) hs ≡ is_some (number_beside hs ks n)
    any_beside n [] ks e = refl
    any_beside n (h ∷ hs) [] e = absurd (omega (arith, e))
    any_beside n (h ∷ hs) (k ∷ ks) e = elim (cases_Bool (h == n)) [
      | inl t ↦ rw t refl
      | inr f ↦ rw f (any_beside n hs ks (omega (arith, e)))
    ]

-- the next stamp of a GUID is that of its group
pub next_found : (groups : List Group) (guid : List ℕ) (mark : ℕ) (g : Group) (r : Option (ℕ × ℕ)) → Some g ≡ find (is_group_of guid) groups → IsNext mark (stamp_in g) r → IsNext mark (stamp_at groups guid) r
next_found groups guid mark g r e h = subst (λ (o : Option Group). IsNext mark (λ n. option_and_then (λ x. stamp_in x n) o) r) e h

pub next_none : (groups : List Group) (guid : List ℕ) (mark : ℕ) → find (is_group_of guid) groups ≡ None → IsNext mark (stamp_at groups guid) None
next_none groups guid mark e = subst (λ (o : Option Group). IsNext mark (λ n. option_and_then (λ x. stamp_in x n) o) None) (sym e) (λ n s k. absurd cc)

pub got : {X : Type 0} (xs : List X) (at : ℕ) (x : X) → at < length xs → x ≡ get_or xs at x → slice_get xs at ≡ Some x
got [] at x l e = absurd (omega arith)
got (y ∷ ys) zero x l e = ap (λ r. Some r) (sym e)
got (y ∷ ys) (suc at) x l e = got ys at x (omega arith) e

pub not_got : {X : Type 0} (xs : List X) (at : ℕ) → length xs ≤ at → slice_get xs at ≡ None
not_got [] zero l = refl
not_got [] (suc at) l = refl
not_got (x ∷ xs) zero l = absurd (omega arith)
not_got (x ∷ xs) (suc at) l = not_got xs at (omega arith)

-- what a look-up keeps
pub kept_here : {X : Type 0} (p : X → Bool) (xs : List X) (at : ℕ) (x : X) → at < length xs → x ≡ get_or xs at x → p x ≡ true → Some x ≡ kept_if p (slice_get xs at)
kept_here p xs at x l e t = rw (got xs at x l e, t) refl

pub lost_here : {X : Type 0} (p : X → Bool) (xs : List X) (at : ℕ) (x : X) → at < length xs → x ≡ get_or xs at x → p x ≡ false → None ≡ kept_if p (slice_get xs at)
lost_here p xs at x l e f = rw (got xs at x l e, f) refl

pub none_here : {X : Type 0} (p : X → Bool) (xs : List X) (at : ℕ) → length xs ≤ at → None ≡ kept_if p (slice_get xs at)
none_here p xs at l = rw (not_got xs at l) refl

pub tells_here : {X : Type 0} (p : X → Bool) (xs : List X) (at : ℕ) (x : X) → at < length xs → x ≡ get_or xs at x → p x ≡ is_some (kept_if p (slice_get xs at))
tells_here p xs at x l e = rw (got xs at x l e) one
  where
    one : p x ≡ is_some (kept_if p (Some x))
    one = elim (cases_Bool (p x)) [
      | inl t ↦ rw t refl
      | inr f ↦ rw f refl
    ]

-- an item that is put back as it was
pub put_back : {X : Type 0} (xs : List X) (at : ℕ) (x y : X) → x ≡ y → y ≡ get_or xs at y → set xs at x ≡ xs
put_back xs at x y e v = ap (λ z. set xs at z) (e ∙ v) ∙ set-get_or xs at y

pub take_next : {X : Type 0} (xs : List X) (k : ℕ) (x : X) → k < length xs → x ≡ get_or xs k x → take k xs ++ x ∷ [] ≡ take (k + 1) xs
take_next {X = X} xs k x l e = rw add-one (go xs k l e)
  where
    go : (ys : List X) (j : ℕ) → j < length ys → x ≡ get_or ys j x → take j ys ++ x ∷ [] ≡ take (suc j) ys
    go [] j m f = absurd (omega arith)
    go (y ∷ ys) zero m f = ap (λ z. z ∷ []) f
    go (y ∷ ys) (suc j) m f = ap (λ zs. y ∷ zs) (go ys j (omega arith) f)

pub take_whole : {X : Type 0} (xs : List X) (k : ℕ) → length xs ≤ k → take k xs ≡ xs
take_whole [] zero l = refl
take_whole [] (suc k) l = refl
take_whole (x ∷ xs) zero l = absurd (omega arith)
take_whole (x ∷ xs) (suc k) l = ap (λ r. x ∷ r) (take_whole xs k (omega arith))
