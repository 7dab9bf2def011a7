-- Interfaces each of which is one of its kind and has a stamp of its own: what keeps them so.
use Rattle.std.proofs.Common.{◌≡◌, ℕ, ◌+◌, ◌<◌, ◌≤◌, ◌==◌, true, false, List, [], ◌∷◌, ◌++◌, map, length, None, inl, inr, refl, sym, ◌∙◌, arith, subst}
use Rattle.std.specs.List.{find, AllByRecursion}
use Rattle.std.proofs.lemmas.Bool.{cases_Bool, ne_eqb}
use Rattle.guid_handles.specs.declared.records.Interface.{Interface}
use Rattle.guid_handles.specs.HandleTables.{same_guid, is_at}
use Rattle.guid_handles.specs.HandleChanges.{restamped, stamped, has_guid_twice}
use Rattle.guid_handles.specs.Sorting.{Ascending}
use Rattle.guid_handles.specs.Indexes.{AreAbsent}
use Rattle.guid_handles.specs.Stores.{AreApart}
use Rattle.guid_handles.proofs.SortedLists.{all_map, all_both, all_mapped, all_append, found_none}
use Rattle.guid_handles.proofs.GuidOrder.{and_false}
use Rattle.guid_handles.proofs.Indexed.{at_handle, at_guid, restamped_handle, restamped_guid, first_of_guid}

-- ---- lists

all_swap : {X Y : Type 0} (R : X → Y → Type 0) (xs : List X) (ys : List Y) → AllByRecursion (λ y. AllByRecursion (λ x. R x y) xs) ys → AllByRecursion (λ x. AllByRecursion (λ y. R x y) ys) xs
all_swap R [] ys h = tt
all_swap R (x ∷ xs) ys h = (
  all_map (λ y. AllByRecursion (λ z. R z y) (x ∷ xs)) (λ y. R x y) (λ y k. k.0) ys h,
  all_swap R xs ys (all_map (λ y. AllByRecursion (λ z. R z y) (x ∷ xs)) (λ y. AllByRecursion (λ z. R z y) xs) (λ y k. k.1) ys h),
)

ascending_append : {X : Type 0} (R : X → X → Type 0) (xs ys : List X) → Ascending R xs → Ascending R ys → AllByRecursion (λ x. AllByRecursion (R x) ys) xs → Ascending R (xs ++ ys)
ascending_append R [] ys a b c = b
ascending_append R (x ∷ xs) ys a b c = (all_append (R x) xs ys a.0 c.0, ascending_append R xs ys a.1 b c.1)

-- ---- more

later_apart : (x : Interface) (n stamp : ℕ) (ps : List (List ℕ × ℕ)) → x.stamp ≤ stamp → AllByRecursion (λ p. is_at n p.0 x ≡ false) ps → AllByRecursion (AreApart x) (stamped n stamp ps)
later_apart x n stamp [] l h = tt
later_apart x n stamp (p ∷ ps) l h = ((h.0, ne_eqb x.stamp (stamp + 1) (λ e. omega (arith, e, l))), later_apart x n (stamp + 1) ps (omega (arith, l)) h.1)

stamped_apart : (n stamp : ℕ) (ps : List (List ℕ × ℕ)) → has_guid_twice ps ≡ false → Ascending AreApart (stamped n stamp ps)
stamped_apart n stamp [] h = tt
stamped_apart n stamp (p ∷ ps) h =
    let f = first_of_guid p ps h in
    let i : Interface = record { handle = n; guid = p.0; value = p.1; stamp = stamp + 1 } in (
      later_apart i n (stamp + 1) ps (omega arith) (all_map (λ q. same_guid p.0 q.0 ≡ false) (λ q. is_at n q.0 i ≡ false) (λ q d. rw (d, and_false (n == n)) refl) ps f.0),
      stamped_apart n (stamp + 1) ps f.1,
    )

pub apart_more : (n last : ℕ) (pairs : List (List ℕ × ℕ)) (listed : List Interface) → AreAbsent n pairs listed → has_guid_twice pairs ≡ false
    → AllByRecursion (λ i. i.stamp ≤ last) listed → Ascending AreApart listed → Ascending AreApart (listed ++ stamped n last pairs)
apart_more n last pairs listed absent once below a =
    ascending_append AreApart listed (stamped n last pairs) a (stamped_apart n last pairs once)
    (all_both (λ x. x.stamp ≤ last) (λ x. AllByRecursion (λ p. is_at n p.0 x ≡ false) pairs) (λ x. AllByRecursion (AreApart x) (stamped n last pairs)) (λ x l h. later_apart x n last pairs l h) listed below
    (all_swap (λ x p. is_at n p.0 x ≡ false) listed pairs
    (all_map (λ p. find (is_at n p.0) listed ≡ None) (λ p. AllByRecursion (λ x. is_at n p.0 x ≡ false) listed) (λ p e. found_none (is_at n p.0) listed e) pairs absent)))

stamped_below : (n stamp limit : ℕ) (ps : List (List ℕ × ℕ)) → stamp + length ps ≤ limit → AllByRecursion (λ i. i.stamp ≤ limit) (stamped n stamp ps)
stamped_below n stamp limit [] l = tt
stamped_below n stamp limit (p ∷ ps) l = (omega (arith, l), stamped_below n (stamp + 1) limit ps (omega (arith, l)))

pub below_more : (n last : ℕ) (pairs : List (List ℕ × ℕ)) (listed : List Interface) → AllByRecursion (λ i. i.stamp ≤ last) listed
    → AllByRecursion (λ i. i.stamp ≤ last + length pairs) (listed ++ stamped n last pairs)
below_more n last pairs listed below =
    all_append (λ i. i.stamp ≤ last + length pairs) listed (stamped n last pairs)
    (all_map (λ i. i.stamp ≤ last) (λ i. i.stamp ≤ last + length pairs) (λ i l. omega (arith, l)) listed below) (stamped_below n last (last + length pairs) pairs (omega arith))

-- ---- changed

apart_two : (n : ℕ) (guid : List ℕ) (value stamp : ℕ) (x y : Interface) → x.stamp < stamp → y.stamp < stamp → AreApart x y → AreApart (restamped n guid value stamp x) (restamped n guid value stamp y)
apart_two n guid value stamp x y l m d = (
  rw (restamped_handle n guid value stamp y, restamped_guid n guid value stamp y, restamped_handle n guid value stamp x, restamped_guid n guid value stamp x) d.0,
  elim (cases_Bool (is_at n guid x)) [
    | inl t ↦ elim (cases_Bool (is_at n guid y)) [
      | inl u ↦
          let f : is_at n guid x ≡ false = subst (λ (g : List ℕ). is_at n g x ≡ false) (at_guid n guid y u) (subst (λ (k : ℕ). is_at k y.guid x ≡ false) (at_handle n guid y u) d.0) in
          let w : true ≡ false = sym t ∙ f in cc
      | inr u ↦ rw (t, u) (ne_eqb stamp y.stamp (λ e. omega (arith, e, m)))
    ]
    | inr t ↦ elim (cases_Bool (is_at n guid y)) [
      | inl u ↦ rw (t, u) (ne_eqb x.stamp stamp (λ e. omega (arith, e, l)))
      | inr u ↦ rw (t, u) d.1
    ]
  ],
)

pub apart_restamped : (n : ℕ) (guid : List ℕ) (value stamp : ℕ) (xs : List Interface) → AllByRecursion (λ i. i.stamp < stamp) xs → Ascending AreApart xs → Ascending AreApart (map (restamped n guid value stamp) xs)
apart_restamped n guid value stamp [] b a = tt
apart_restamped n guid value stamp (x ∷ xs) b a = (
  all_mapped (AreApart (restamped n guid value stamp x)) (λ y. AreApart x y × (y.stamp < stamp)) (restamped n guid value stamp) (λ y h. apart_two n guid value stamp x y b.0 h.1 h.0) xs
      (all_both (AreApart x) (λ y. y.stamp < stamp) (λ y. AreApart x y × (y.stamp < stamp)) (λ y d l. (d, l)) xs a.0 b.1),
  apart_restamped n guid value stamp xs b.1 a.1,
)

restamped_below : (n : ℕ) (guid : List ℕ) (value stamp : ℕ) (i : Interface) → i.stamp < stamp → (restamped n guid value stamp i).stamp ≤ stamp
restamped_below n guid value stamp i l = elim (cases_Bool (is_at n guid i)) [
  | inl t ↦ rw t (omega arith)
  | inr t ↦ rw t (omega (arith, l))
]

pub below_restamped : (n : ℕ) (guid : List ℕ) (value stamp : ℕ) (xs : List Interface) → AllByRecursion (λ i. i.stamp < stamp) xs → AllByRecursion (λ i. i.stamp ≤ stamp) (map (restamped n guid value stamp) xs)
below_restamped n guid value stamp xs b =
    all_mapped (λ i. i.stamp ≤ stamp) (λ i. i.stamp < stamp) (restamped n guid value stamp) (λ i l. restamped_below n guid value stamp i l) xs b
