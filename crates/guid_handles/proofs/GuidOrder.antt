-- The order of GUIDs: which groups come before a GUID, and which one is of it.
use Rattle.std.proofs.Common.{◌≡◌, ◌≢◌, ◌&&◌, Bool, true, false, List, [], ◌∷◌, inl, inr, refl, sym, ap, ◌∙◌, ℕ}
use Rattle.std.specs.declared.cmp.Ordering.{Ordering}
use Rattle.std.specs.declared.cmp.Ordering.TheVariants.{Less, Equal, Greater}
use Rattle.std.specs.Ordering.{nat_cmp, ordering_reverse, is_lt, is_eq}
use Rattle.std.specs.Cmp.{IsTotalOrder}
use Rattle.std.specs.Cmp.Lexicographic.{slice_cmp, texts_ties}
use Rattle.std.proofs.lemmas.Cmp.{nat_list_cmp_total}
use Rattle.std.proofs.lemmas.Bool.Decides.{eqb_tells}
use Rattle.guid_handles.specs.HandleTables.{same_guid}
use Rattle.guid_handles.specs.Indexes.{Group, is_group_of, is_before, AscendByGuid}
use Rattle.guid_handles.proofs.SortedLists.{Falls, IsSplit, cases_Ordering, all_map, all_under}

-- ---- total orders

greater_from : {K : Type 0} {R : K → K → Ordering} → IsTotalOrder R → (x y : K) → R x y ≡ Less → R y x ≡ Greater
greater_from {R = R} o x y h = o.antisymm y x ∙ ap ordering_reverse h

pub less_from : {K : Type 0} {R : K → K → Ordering} → IsTotalOrder R → (x y : K) → R x y ≡ Greater → R y x ≡ Less
less_from {R = R} o x y h = o.antisymm y x ∙ ap ordering_reverse h

-- what comes after something that is not before k is after k
pub after : {K : Type 0} {R : K → K → Ordering} → IsTotalOrder R → (x y k : K) → R x y ≡ Less → R x k ≢ Less → R y k ≡ Greater
after {R = R} o x y k h n = elim (cases_Ordering (R x k)) [
  | inl e ↦ absurd (n e)
  | inr (inl e) ↦ greater_from o k y (sym (o.congr x k y e) ∙ h)
  | inr (inr e) ↦ greater_from o k y (o.trans k x y (less_from o x k e) h)
]

not_less : (o : Ordering) → is_lt o ≡ false → o ≢ Less
not_less o h e = let n = rw e at h in cc

pub is_less : (o : Ordering) → is_lt o ≡ true → o ≡ Less
is_less Less h = refl
is_less Equal h = cc
is_less Greater h = cc

not_equal : (o : Ordering) → is_lt o ≡ true → is_eq o ≡ false
not_equal Less h = refl
not_equal Equal h = cc
not_equal Greater h = refl

pub greater_of : (o : Ordering) → is_lt o ≡ false → is_eq o ≡ false → o ≡ Greater
greater_of Less h k = cc
greater_of Equal h k = cc
greater_of Greater h k = refl

-- ---- GUIDs

pub same_guid-true : (a b : List ℕ) → same_guid a b ≡ true → a ≡ b
same_guid-true [] [] h = refl
same_guid-true [] (y ∷ ys) h = cc
same_guid-true (x ∷ xs) [] h = cc
same_guid-true (x ∷ xs) (y ∷ ys) h = elim (eqb_tells x y) [
  | inl t ↦ let r = same_guid-true xs ys (rw t.0 at h) in let e = t.1 in cc
  | inr f ↦ let n = rw f.0 at h in cc
]

pub same_guid-refl : (a : List ℕ) → same_guid a a ≡ true
same_guid-refl [] = refl
same_guid-refl (x ∷ xs) = elim (eqb_tells x x) [
  | inl t ↦ rw t.0 (same_guid-refl xs)
  | inr f ↦ absurd (f.1 refl)
]

pub and_false : (b : Bool) → (b && false) ≡ false
and_false true = refl
and_false false = refl

pub and_true : (b : Bool) → (b && true) ≡ b
and_true true = refl
and_true false = refl

-- ---- groups

group_after : (guid : List ℕ) (g h : Group) → is_before guid g ≡ false → slice_cmp nat_cmp g.guid h.guid ≡ Less → slice_cmp nat_cmp h.guid guid ≡ Greater
group_after guid g h b l = after nat_list_cmp_total g.guid h.guid guid l (not_less (slice_cmp nat_cmp g.guid guid) b)

pub guid_splits : (guid : List ℕ) (groups : List Group) → AscendByGuid groups → IsSplit (is_before guid) (is_group_of guid) groups
guid_splits guid [] a = tt
guid_splits guid (g ∷ gs) a = (
  λ h. texts_ties g.guid guid ∙ not_equal (slice_cmp nat_cmp g.guid guid) h,
  λ h. all_map (λ k. slice_cmp nat_cmp g.guid k.guid ≡ Less) (λ k. is_group_of guid k ≡ false) (λ k l. texts_ties k.guid guid ∙ ap is_eq (group_after guid g k h l)) gs
      (all_under (λ k. k.guid) (λ b. slice_cmp nat_cmp g.guid b ≡ Less) gs a.0),
  guid_splits guid gs a.1,
)

pub guid_falls : (guid : List ℕ) (groups : List Group) → AscendByGuid groups → Falls (is_before guid) groups
guid_falls guid [] a = tt
guid_falls guid (g ∷ gs) a = (
  λ h. all_map (λ k. slice_cmp nat_cmp g.guid k.guid ≡ Less) (λ k. is_before guid k ≡ false) (λ k l. ap is_lt (group_after guid g k h l)) gs
      (all_under (λ k. k.guid) (λ b. slice_cmp nat_cmp g.guid b ≡ Less) gs a.0),
  guid_falls guid gs a.1,
)
