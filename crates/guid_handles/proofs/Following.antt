-- The interface of a GUID with the least stamp above a mark, by the stamps in its group.
use Rattle.std.proofs.Common.{◌≡◌, ℕ, ◌≤◌, nat_lt, Bool, true, false, List, [], ◌∷◌, Option, Some, None, is_some, inl, inr, refl, sym, ap, ◌∙◌, arith, subst}
use Rattle.std.specs.List.{filter, find, AllByRecursion}
use Rattle.std.specs.Option.{option_map}
use Rattle.std.proofs.lemmas.Bool.{cases_Bool, and_parts, eq-eqb, ltb-true, ltb-false}
use Rattle.std.proofs.lemmas.Option.{same_Some}
use Rattle.guid_handles.specs.declared.records.Interface.{Interface}
use Rattle.guid_handles.specs.declared.records.Record.{Record}
use Rattle.guid_handles.specs.HandleTables.{is_of, is_on, is_at, is_after, earlier_of, earliest, next_after}
use Rattle.guid_handles.specs.Sorting.{Ascending}
use Rattle.guid_handles.specs.Indexes.{Row, Group, IsNext, stamp_at}
use Rattle.guid_handles.specs.Slots.{installed_until}
use Rattle.guid_handles.specs.Stores.{AreApart, IsStore, table_of}
use Rattle.guid_handles.proofs.SortedLists.{all_map, all_both, all_filtered, all_of}
use Rattle.guid_handles.proofs.GuidOrder.{same_guid-true}
use Rattle.guid_handles.proofs.Indexed.{at_handle}
use Rattle.guid_handles.proofs.Found.{earliest_one, found_one}

-- ---- the least stamp

earlier_some : (i : Interface) (o : Option Interface) → is_some (earlier_of i o) ≡ true
earlier_some i None = refl
earlier_some i (Some j) = elim (cases_Bool (nat_lt j.stamp i.stamp)) [
  | inl l ↦ rw l refl
  | inr l ↦ rw l refl
]

-- where none is the earliest there is none
earliest_none : (P : Interface → Type 0) (is : List Interface) → earliest is ≡ None → AllByRecursion P is
earliest_none P [] e = tt
earliest_none P (i ∷ is) e = let w : true ≡ false = sym (earlier_some i (earliest is)) ∙ ap is_some e in cc

earlier_least : (i : Interface) (is : List Interface) (o : Option Interface) (n : Interface) → earliest is ≡ o → ((k : Interface) → o ≡ Some k → AllByRecursion (λ j. k.stamp ≤ j.stamp) is)
    → earlier_of i o ≡ Some n → AllByRecursion (λ j. n.stamp ≤ j.stamp) (i ∷ is)
earlier_least i is None n e f h =
    subst (λ (m : Interface). AllByRecursion (λ j. m.stamp ≤ j.stamp) (i ∷ is)) (same_Some i n h) (omega arith, earliest_none (λ j. i.stamp ≤ j.stamp) is e)
earlier_least i is (Some k) n e f h = elim (cases_Bool (nat_lt k.stamp i.stamp)) [
  | inl l ↦ subst (λ (m : Interface). AllByRecursion (λ j. m.stamp ≤ j.stamp) (i ∷ is)) (same_Some k n (rw l at h)) (omega (arith, ltb-true k.stamp i.stamp l), f k refl)
  | inr l ↦
      subst (λ (m : Interface). AllByRecursion (λ j. m.stamp ≤ j.stamp) (i ∷ is)) (same_Some i n (rw l at h))
      (omega arith, all_map (λ j. k.stamp ≤ j.stamp) (λ j. i.stamp ≤ j.stamp) (λ j m. omega (arith, m, ltb-false k.stamp i.stamp l)) is (f k refl))
]

earliest_least : (is : List Interface) (n : Interface) → earliest is ≡ Some n → AllByRecursion (λ j. n.stamp ≤ j.stamp) is
earliest_least [] n e = cc
earliest_least (i ∷ is) n e = earlier_least i is (earliest is) n refl (λ k h. earliest_least is k h) e

-- what holds of those that pass, as a fact of each
unfiltered : {X : Type 0} (P : X → Type 0) (q : X → Bool) (xs : List X) → AllByRecursion P (filter q xs) → AllByRecursion (λ x. q x ≡ true → P x) xs
unfiltered P q [] h = tt
unfiltered P q (x ∷ xs) h = elim (cases_Bool (q x)) [
  | inl e ↦ let k = rw e at h in (λ t. k.0, unfiltered P q xs k.1)
  | inr e ↦ (λ t. let w : false ≡ true = sym e ∙ t in cc, unfiltered P q xs (rw e at h))
]

-- Of the interfaces on handles, at most one on each, the one with the least stamp of those that pass a test; none if none passes.
abbrev pub IsNextOf : (Interface → Bool) → (ℕ → Option Interface) → Option Interface → Type 0
IsNextOf q there None = (n : ℕ) (j : Interface) → there n ≡ Some j → q j ≡ true → ⊥
IsNextOf q there (Some i) = (there i.handle ≡ Some i) × (q i ≡ true) × ((n : ℕ) (j : Interface) → there n ≡ Some j → q j ≡ true → i.stamp ≤ j.stamp)

-- ---- among all

listed_self : (guid : List ℕ) (xs : List Interface) → Ascending AreApart xs → AllByRecursion (λ x. is_of guid x ≡ true → find (is_at x.handle guid) xs ≡ Some x) xs
listed_self guid [] a = tt
listed_self guid (x ∷ xs) a = (
  λ t. rw (eq-eqb x.handle x.handle refl, t) refl,
  all_both (AreApart x) (λ y. is_of guid y ≡ true → find (is_at y.handle guid) xs ≡ Some y) (λ y. is_of guid y ≡ true → find (is_at y.handle guid) (x ∷ xs) ≡ Some y)
      (λ y d f t. let n : is_at y.handle guid x ≡ false = subst (λ (g : List ℕ). is_at y.handle g x ≡ false) (same_guid-true y.guid guid t) d.0 in rw n (f t)) xs a.0 (listed_self guid xs a.1),
)

-- two interfaces that are found have different stamps, or are the same
one_of_stamp : (xs : List Interface) → Ascending AreApart xs → (p q : Interface → Bool) (x y : Interface) → find p xs ≡ Some x → find q xs ≡ Some y → x.stamp ≡ y.stamp → x ≡ y
one_of_stamp [] a p q x y e f s = cc
one_of_stamp (z ∷ zs) a p q x y e f s = elim (cases_Bool (p z)) [
  | inl t ↦
      let zx : z ≡ x = same_Some z x (rw t at e) in
      elim (cases_Bool (q z)) [
        | inl u ↦ sym zx ∙ same_Some z y (rw u at f)
        | inr u ↦
            let d = (found_one (AreApart z) q zs y a.0 (rw u at f)).1 in
            let w : true ≡ false = sym (eq-eqb z.stamp y.stamp (ap (λ (i : Interface). i.stamp) zx ∙ s)) ∙ d.1 in cc
      ]
  | inr t ↦ elim (cases_Bool (q z)) [
    | inl u ↦
        let zy : z ≡ y = same_Some z y (rw u at f) in
        let d = (found_one (AreApart z) p zs x a.0 (rw t at e)).1 in
        let w : true ≡ false = sym (eq-eqb z.stamp x.stamp (ap (λ (i : Interface). i.stamp) zy ∙ sym s)) ∙ d.1 in cc
    | inr u ↦ one_of_stamp zs a.1 p q x y (rw t at e) (rw u at f) s
  ]
]

-- the interface that is returned is found, and passes
returned_found : (guid : List ℕ) (mark : ℕ) (listed : List Interface) (k : Interface) → Ascending AreApart listed → earliest (filter (is_after guid mark) listed) ≡ Some k
    → (find (is_at k.handle guid) listed ≡ Some k) × (is_after guid mark k ≡ true)
returned_found guid mark listed k a e =
    let q : Interface → Bool = is_after guid mark in
    let all : AllByRecursion (λ x. (find (is_at x.handle guid) listed ≡ Some x) × (q x ≡ true)) (filter q listed) =
    all_filtered (λ x. (find (is_at x.handle guid) listed ≡ Some x) × (q x ≡ true)) (λ x. is_of guid x ≡ true → find (is_at x.handle guid) listed ≡ Some x) q
    (λ x t f. (f (and_parts (is_of guid x) (nat_lt mark x.stamp) t).0, t)) listed (listed_self guid listed a) in
    earliest_one (λ x. (find (is_at x.handle guid) listed ≡ Some x) × (q x ≡ true)) (filter q listed) k all e

next_is : (guid : List ℕ) (mark : ℕ) (listed : List Interface) → Ascending AreApart listed → (r o : Option Interface) → IsNextOf (is_after guid mark) (λ n. find (is_at n guid) listed) r
    → earliest (filter (is_after guid mark) listed) ≡ o → r ≡ o
next_is guid mark listed a None None h e = refl
next_is guid mark listed a None (Some k) h e = let there = returned_found guid mark listed k a e in absurd (h k.handle k there.0 there.1)
next_is guid mark listed a (Some i) None h e =
    absurd ((found_one (λ x. is_after guid mark x ≡ true → ⊥) (is_at i.handle guid) listed i
    (unfiltered (λ x. ⊥) (is_after guid mark) listed (earliest_none (λ x. ⊥) (filter (is_after guid mark) listed) e)) h.0).1 h.1)
next_is guid mark listed a (Some i) (Some k) h e =
    let there = returned_found guid mark listed k a e in
    let least = unfiltered (λ j. k.stamp ≤ j.stamp) (is_after guid mark) listed (earliest_least (filter (is_after guid mark) listed) k e) in
    let above : k.stamp ≤ i.stamp = (found_one (λ x. is_after guid mark x ≡ true → k.stamp ≤ x.stamp) (is_at i.handle guid) listed i least h.0).1 h.1 in
    let under : i.stamp ≤ k.stamp = h.2 k.handle k there.0 there.1 in
    ap (λ x. Some x) (one_of_stamp listed a (is_at i.handle guid) (is_at k.handle guid) i k h.0 there.0 (omega (arith, above, under)))

-- ---- by groups

of_stamp : (o : Option Interface) (s : ℕ) → option_map (λ i. i.stamp) o ≡ Some s → (i : Interface) × (o ≡ Some i) × (i.stamp ≡ s)
of_stamp None s e = absurd cc
of_stamp (Some i) s e = (i, refl, same_Some i.stamp s e)

module _ (rows : List Row) (slots : List (Option Record)) (groups : List Group) (number stamp order : ℕ) (s : IsStore rows slots groups number stamp order) where
  stamp_of : (guid : List ℕ) (n : ℕ) (j : Interface) → find (is_at n guid) (installed_until order slots) ≡ Some j → stamp_at groups guid n ≡ Some j.stamp
  stamp_of guid n j e = s.stamps guid n ∙ ap (option_map (λ (i : Interface). i.stamp)) e

  -- the interface that a group has next is the next of all
  pub next_listed : (guid : List ℕ) (mark : ℕ) (r : Option (ℕ × ℕ)) → IsNext mark (stamp_at groups guid) r → r ≡ next_after (table_of rows slots number stamp order) guid mark
  next_listed guid mark None h =
      let is : List Interface = installed_until order slots in
      ap (option_map {U = ℕ × ℕ} (λ (i : Interface). (i.handle, i.stamp)))
      (next_is guid mark is s.table.apart None (earliest (filter (is_after guid mark) is))
      (λ n j f p. let w : true ≡ false = sym (and_parts (is_of guid j) (nat_lt mark j.stamp) p).1 ∙ h n j.stamp (stamp_of guid n j f) in cc) refl)
  next_listed guid mark (Some p) h =
      let is : List Interface = installed_until order slots in
      let i = of_stamp (find (is_at p.0 guid) is) p.1 (sym (s.stamps guid p.0) ∙ h.0) in
      let at : is_at p.0 guid i.0 ≡ true = (found_one (λ x. Unit {0}) (is_at p.0 guid) is i.0 (all_of (λ x. Unit {0}) (λ x. tt) is) i.1).0 in
      let handle : i.0.handle ≡ p.0 = at_handle p.0 guid i.0 at in
      let own : is_of guid i.0 ≡ true = (and_parts (is_on p.0 i.0) (is_of guid i.0) at).1 in
      let there : find (is_at i.0.handle guid) is ≡ Some i.0 = rw handle i.1 in
      let after : is_after guid mark i.0 ≡ true = rw (own, i.2, h.1) refl in
      let least : (n : ℕ) (j : Interface) → find (is_at n guid) is ≡ Some j → is_after guid mark j ≡ true → i.0.stamp ≤ j.stamp =
      λ n j f q. let l : p.1 ≤ j.stamp = h.2 n j.stamp (stamp_of guid n j f) (and_parts (is_of guid j) (nat_lt mark j.stamp) q).1 in omega (arith, l, i.2) in
      let same : Some i.0 ≡ earliest (filter (is_after guid mark) is) = next_is guid mark is s.table.apart (Some i.0) (earliest (filter (is_after guid mark) is)) (there, after, least) refl in
      paired p i.0 handle i.2 ∙ ap (option_map {U = ℕ × ℕ} (λ (x : Interface). (x.handle, x.stamp))) same
    where
      paired : (p : ℕ × ℕ) (i : Interface) → i.handle ≡ p.0 → i.stamp ≡ p.1 → Some p ≡ option_map {U = ℕ × ℕ} (λ (x : Interface). (x.handle, x.stamp)) (Some i)
      paired p i a b = rw (a, b) refl

  -- no interface is next after the last stamp
  pub none_later : (guid : List ℕ) (mark : ℕ) → stamp ≤ mark → None ≡ next_after (table_of rows slots number stamp order) guid mark
  none_later guid mark l = next_listed guid mark None (λ n t e.
      let i = of_stamp (find (is_at n guid) (installed_until order slots)) t (sym (s.stamps guid n) ∙ e) in
      let under : i.0.stamp ≤ stamp = (found_one (λ x. x.stamp ≤ stamp) (is_at n guid) (installed_until order slots) i.0 s.table.below i.1).1 in
      elim (cases_Bool (nat_lt mark t)) [
        | inl k ↦ absurd (omega (arith, ltb-true mark t k, under, i.2, l))
        | inr f ↦ f
      ])
